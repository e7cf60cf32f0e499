use Rattle.std.proofs.Common.{◌≡◌, flat_map}
use Rattle.aud_node.specs.Lists.{numbers_from}
use Rattle.aud_session_facts.specs.Recoveries.{recoveries_at}
use Rattle.aud_session_facts.proofs.asked.recoveries.Given as goal

abbrev pub invariant-loop-place : goal.invariant-loop-place
invariant-loop-place l = l.found.items ≡ flat_map (recoveries_at l.recording) (numbers_from 0 l.place)
