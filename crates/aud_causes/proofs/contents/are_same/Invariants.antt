use Rattle.std.proofs.Common.{◌≡◌, drop, map}
use Rattle.aud_sio.specs.Message.{blob_bytes}
use Rattle.aud_sio.specs.Assembly.{blob_view}
use Rattle.aud_causes.specs.Contents.{are_same}
use Rattle.aud_causes.proofs.contents.are_same.Given as goal

-- those so far are the same
abbrev pub invariant-loop-i : goal.invariant-loop-i
invariant-loop-i l =
    are_same (map blob_bytes (map blob_view (drop l.i l.bin))) (drop l.i l.others)
    ≡ are_same (map blob_bytes (map blob_view l.bin)) l.others
