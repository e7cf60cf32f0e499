use Rattle.std.proofs.Common.{ap, ◌∙◌, nat_le, slice_get, rules}
use Rattle.std.proofs.lemmas.List.Sorted.{IsPartitionPoint-from_clause, IsPartitionedBy-leb}
use Rattle.aud_rooms.proofs.Parts.{point_parts}
use Rattle.aud_rows.proofs.client_places.first_past.Goals as goal

pub returns : goal.returns
returns c =
    let at = c.partition_point-count.ensures in
    let parts = point_parts (λ n. nat_le n c.args.number) c.args.marks.now c.partition_point-count.result
    (IsPartitionPoint-from_clause (λ n. nat_le n c.args.number) c.args.marks.now c.partition_point-count.result at.partitioned (IsPartitionedBy-leb (λ n. n) c.args.marks.now c.args.number c.requires) (λ a r f k. search rules)) at.bound in
    let past = c.split_at.ensures.back ∙ parts.1 in
    c.copied.ensures ∙ c.first.ensures.value ∙ ap (λ l. slice_get l 0) past
