use Rattle.std.proofs.Common.{◌≡◌, take}
use Rattle.aud_upgrade.proofs.copies.copied_blobs.Given as goal

abbrev pub invariant-loop-blob : goal.invariant-loop-blob
invariant-loop-blob l = l.copies.items ≡ take l.blob-index l.blobs
