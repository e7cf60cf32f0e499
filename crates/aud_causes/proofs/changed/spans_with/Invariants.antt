use Rattle.std.proofs.Common.{◌≡◌, take}
use Rattle.std.specs.List.{filter}
use Rattle.aud_causes.specs.Changed.{is_of_other}
use Rattle.aud_causes.proofs.changed.spans_with.Given as goal

-- those so far
abbrev pub invariant-loop-span : goal.invariant-loop-span
invariant-loop-span l = l.changed.items ≡ filter (is_of_other l.room) (take l.span-index l.spans)
