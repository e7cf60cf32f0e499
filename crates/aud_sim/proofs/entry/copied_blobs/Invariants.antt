use Rattle.std.proofs.Common.{◌≡◌, take}
use Rattle.aud_sim.proofs.entry.copied_blobs.Given as goal

abbrev pub invariant-loop-bytes : goal.invariant-loop-bytes
invariant-loop-bytes l = l.copies.items ≡ take l.bytes-index l.blobs
