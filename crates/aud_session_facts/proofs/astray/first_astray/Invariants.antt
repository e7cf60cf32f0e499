use Rattle.std.proofs.Common.{◌≡◌, drop}
use Rattle.std.specs.List.{list_all}
use Rattle.aud_maker.specs.InTurn.{is_swept}
use Rattle.aud_session_facts.proofs.astray.first_astray.Given as goal

abbrev pub invariant-loop-node : goal.invariant-loop-node
invariant-loop-node l = list_all (is_swept l.logs l.turns l.pid) (drop l.node-index l.nodes) ≡ list_all (is_swept l.logs l.turns l.pid) l.nodes
