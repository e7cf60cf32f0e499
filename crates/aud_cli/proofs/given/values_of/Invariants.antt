use Rattle.std.proofs.Common.{◌≡◌, take}
use Rattle.aud_cli.specs.Given.{values_of}
use Rattle.aud_cli.proofs.given.values_of.Given as goal

-- the values so far are those of what was looked at
abbrev pub invariant-loop-given : goal.invariant-loop-given
invariant-loop-given l = l.values.items ≡ values_of l.name (take l.given-index l.all)
