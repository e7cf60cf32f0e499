use Rattle.std.proofs.Common.{◌≡◌, drop}
use Rattle.aud_causes.specs.Recorded.{has_first_turn}
use Rattle.aud_causes.proofs.recorded.has_first_turn.Given as goal

-- what is to come gives it
abbrev pub invariant-loop-node : goal.invariant-loop-node
invariant-loop-node l = has_first_turn l.logs l.pid (drop l.node-index l.nodes) ≡ has_first_turn l.logs l.pid l.nodes
