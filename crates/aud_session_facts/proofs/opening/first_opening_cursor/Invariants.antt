use Rattle.std.proofs.Common.{◌≡◌, drop}
use Rattle.aud_session_facts.specs.Opening.{first_opening_cursor}
use Rattle.aud_session_facts.proofs.opening.first_opening_cursor.Given as goal

abbrev pub invariant-loop-node : goal.invariant-loop-node
invariant-loop-node l = first_opening_cursor l.logs (drop l.node-index l.nodes) l.pid ≡ first_opening_cursor l.logs l.nodes l.pid
