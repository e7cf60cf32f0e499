use Rattle.std.proofs.Common.{◌≡◌, drop}
use Rattle.aud_sim.specs.Clients.{with_attachments, with_frame}
use Rattle.aud_sim.proofs.frames.frame.Given as goal

abbrev pub invariant-loop-bytes : goal.invariant-loop-bytes
invariant-loop-bytes l = with_attachments l.name (drop l.bytes-index l.bin) l.bundle ≡ with_frame l.name l.text l.bin l.fn.bundle
