use Rattle.std.proofs.Common.{ap, ◌∙◌, nat_lt, rules}
use Rattle.std.proofs.lemmas.List.Sorted.{IsPartitionPoint-from_clause, IsPartitionedBy-ltb}
use Rattle.aud_rooms.proofs.Parts.{point_parts}
use Rattle.aud_rows.specs.Marks.{last_of}
use Rattle.aud_rows.proofs.client_places.last_before.Goals as goal

pub returns : goal.returns
returns c =
    let at = c.partition_point-count.ensures in
    let parts = point_parts (λ n. nat_lt n c.args.number) c.args.marks.now c.partition_point-count.result
    (IsPartitionPoint-from_clause (λ n. nat_lt n c.args.number) c.args.marks.now c.partition_point-count.result at.partitioned (IsPartitionedBy-ltb (λ n. n) c.args.marks.now c.args.number c.requires) (λ a r f k. search rules)) at.bound in
    let before = c.split_at.ensures.front ∙ parts.0 in
    c.copied.ensures ∙ c.last.ensures.value ∙ ap last_of before
