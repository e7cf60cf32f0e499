use Rattle.std.proofs.Common.{◌≡◌, drop}
use Rattle.aud_causes.specs.Changed.{greatest}
use Rattle.aud_causes.proofs.changed.stretch_of.Given as goal

-- the positions to come give it, after those so far
abbrev pub invariant-loop-other : goal.invariant-loop-other
invariant-loop-other l = greatest l.last (drop l.other-index l.other-items) ≡ greatest 0 l.session.came.now
