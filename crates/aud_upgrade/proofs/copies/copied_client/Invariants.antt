use Rattle.std.proofs.Common.{◌≡◌, take}
use Rattle.aud_upgrade.proofs.copies.copied_client.Given as goal

abbrev pub invariant-loop-rec : goal.invariant-loop-rec
invariant-loop-rec l = l.copies.items ≡ take l.rec-index l.records
