use Rattle.std.proofs.Common.{◌≡◌, drop}
use Rattle.aud_maker.specs.Begun.{turn_begun}
use Rattle.aud_maker.proofs.begun.turn_at.Given as goal

abbrev pub invariant-loop-node : goal.invariant-loop-node
invariant-loop-node l = turn_begun l.logs (drop l.node-index l.nodes) l.pid l.number ≡ turn_begun l.logs l.nodes l.pid l.number
