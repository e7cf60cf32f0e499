use Rattle.std.proofs.Common.{◌≡◌, map, take}
use Rattle.aud_sio.specs.Message.{blob_bytes}
use Rattle.aud_sio.specs.Assembly.{blob_view}
use Rattle.aud_check.proofs.content.part_of_attachments.Given as goal

abbrev pub invariant-loop-number : goal.invariant-loop-number
invariant-loop-number l = take l.number (map blob_bytes (map blob_view l.blobs)) ≡ take l.number l.bytes
