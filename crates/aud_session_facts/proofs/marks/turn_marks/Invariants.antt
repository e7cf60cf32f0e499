use Rattle.std.proofs.Common.{◌≡◌, ◌++◌, drop}
use Rattle.std.specs.List.{flat_map}
use Rattle.aud_session_facts.specs.Marks.{marks_on}
use Rattle.aud_session_facts.proofs.marks.turn_marks.Given as goal

abbrev pub invariant-loop-node : goal.invariant-loop-node
invariant-loop-node l = l.marks.items ++ flat_map (marks_on l.logs l.pid) (drop l.node-index l.nodes) ≡ flat_map (marks_on l.logs l.pid) l.nodes
