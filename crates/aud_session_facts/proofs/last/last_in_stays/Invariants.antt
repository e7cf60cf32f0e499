use Rattle.std.proofs.Common.{◌≡◌, map, take}
use Rattle.aud_session_facts.specs.Private.Last.{last_in_stays}
use Rattle.aud_session_facts.proofs.last.last_in_stays.Given as goal

abbrev pub invariant-loop-stay : goal.invariant-loop-stay
invariant-loop-stay l = l.last ≡ last_in_stays (take l.stay-index (map (λ stay. stay.now) l.stays))
