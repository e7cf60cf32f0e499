use Rattle.std.proofs.Common.{◌≡◌, take}
use Rattle.aud_upgrade.proofs.copies.copied_entries.Given as goal

abbrev pub invariant-loop-number : goal.invariant-loop-number
invariant-loop-number l = l.copies ≡ take l.number l.entries
