use Rattle.std.proofs.Common.{◌≡◌, drop, map}
use Rattle.aud_cert.specs.Certificate.{turn_at}
use Rattle.aud_session_facts.specs.Private.Found.{reach_from}
use Rattle.aud_session_facts.proofs.reach.reach_from.Given as goal

abbrev pub invariant-loop-number : goal.invariant-loop-number
invariant-loop-number l =
    reach_from l.logs l.number (map (turn_at l.logs) (drop l.number l.turns)) l.position ≡ reach_from l.logs 0 (map (turn_at l.logs) l.turns) l.position
