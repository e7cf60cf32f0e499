use Rattle.std.proofs.Common.{◌≡◌, drop, map}
use Rattle.aud_session_facts.specs.StayTurns.{begin_as_turns}
use Rattle.aud_session_facts.proofs.stay_turns.stays_match.Given as goal

-- all so far begin as their turns do
abbrev pub invariant-loop-number : goal.invariant-loop-number
invariant-loop-number l =
    begin_as_turns l.stream (map (λ stay. stay.now) l.stays) l.high l.number (drop l.number l.turns)
    ≡ begin_as_turns l.stream (map (λ stay. stay.now) l.stays) 0 0 l.turns
