use Rattle.std.proofs.Common.{◌≡◌, drop, None}
use Rattle.aud_causes.specs.Orphans.{last_beside}
use Rattle.aud_causes.proofs.orphans.stay_before.Given as goal

-- the stays to come give it, after this one so far
abbrev pub invariant-loop-place : goal.invariant-loop-place
invariant-loop-place l = last_beside l.stay l.last l.place (drop l.place l.front) ≡ last_beside l.stay None 0 l.front
