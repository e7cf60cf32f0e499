use Rattle.std.proofs.Common.{◌∙◌, nat_le, rules}
use Rattle.std.proofs.lemmas.List.Sorted.{IsPartitionPoint-from_clause, IsPartitionedBy-leb}
use Rattle.aud_rooms.proofs.Parts.{point_parts}
use Rattle.aud_rooms.proofs.cut.cut_after.Goals as goal

pub returns : goal.returns
returns c =
    let at = c.partition_point-count.ensures in
    let parts = point_parts (λ n. nat_le n c.args.last) c.args.numbers.now c.partition_point-count.result
    (IsPartitionPoint-from_clause (λ n. nat_le n c.args.last) c.args.numbers.now c.partition_point-count.result at.partitioned (IsPartitionedBy-leb (λ n. n) c.args.numbers.now c.args.last c.requires) (λ a r f k. search rules)) at.bound in
    record { upto = c.split_at.ensures.front ∙ parts.0; past = c.split_at.ensures.back ∙ parts.1 }
