use Rattle.std.proofs.Common.{Some}
use Rattle.aud_node.proofs.MapLemmas.{get-updated}
use Rattle.aud_node.proofs.offset_map.OffsetMap.mark.Goals as goal

pub returns-then-is_some-clause-positions : goal.returns-then-is_some-clause-positions
returns-then-is_some-clause-positions c = λ q. get-updated c.args.self.now.positions c.insert.new.self c.args.off.now (Some c.args.position) c.in_ok-old.ensures.updates q

pub returns-else-is_some-clause-positions : goal.returns-else-is_some-clause-positions
returns-else-is_some-clause-positions c = λ q. get-updated c.args.self.now.positions c.insert.new.self c.args.off.now (Some c.args.position) c.in_ok-old.ensures.updates q
