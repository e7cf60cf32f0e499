use Rattle.std.proofs.Common.{◌≡◌, drop, None}
use Rattle.aud_causes.specs.Bodies.{last_record}
use Rattle.aud_causes.proofs.bodies.last_record.Given as goal

-- the stays to come give it, after this one so far
abbrev pub invariant-loop-number : goal.invariant-loop-number
invariant-loop-number l = last_record l.places l.last (drop l.number-index l.numbers) ≡ last_record l.places None l.numbers
