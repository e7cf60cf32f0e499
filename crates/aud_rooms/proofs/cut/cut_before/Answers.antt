use Rattle.std.proofs.Common.{◌∙◌, nat_lt, rules, arith}
use Rattle.std.proofs.lemmas.Grind.{common_steps}
use Rattle.std.proofs.lemmas.List.Sorted.{IsPartitionPoint-from_clause, IsPartitionedBy-ltb}
use Rattle.aud_rooms.proofs.Parts.{point_parts}
use Rattle.aud_rooms.proofs.cut.cut_before.Goals as goal

pub returns : goal.returns
returns c =
    let at = c.partition_point-count.ensures in
    let parts = point_parts (λ n. nat_lt n c.args.first) c.args.numbers.now c.partition_point-count.result
    (IsPartitionPoint-from_clause (λ n. nat_lt n c.args.first) c.args.numbers.now c.partition_point-count.result at.partitioned (IsPartitionedBy-ltb (λ n. n) c.args.numbers.now c.args.first c.requires) (λ a r f k. search rules)) at.bound in
    record { parts = grind (arith, common_steps); below = c.split_at.ensures.front ∙ parts.0; above = c.split_at.ensures.back ∙ parts.1 }
