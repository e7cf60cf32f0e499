use Rattle.std.proofs.Common.{◌≡◌, drop, map}
use Rattle.aud_session_facts.specs.StayTurns.{stay_of_frame}
use Rattle.aud_session_facts.proofs.stay_turns.stay_of_frame.Given as goal

-- what is to come gives the stay
abbrev pub invariant-loop-number : goal.invariant-loop-number
invariant-loop-number l =
    stay_of_frame (map (λ stay. stay.now) (drop l.number l.stays)) l.number l.left ≡ stay_of_frame (map (λ stay. stay.now) l.stays) 0 l.frame
