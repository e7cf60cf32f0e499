use Rattle.std.proofs.Common.{◌≡◌, drop, map}
use Rattle.std.specs.Cmp.Lexicographic.{pointwise}
use Rattle.std.specs.Str.{bytes_eq}
use Rattle.aud_sio.specs.Message.{blob_bytes}
use Rattle.aud_sio.specs.Assembly.{blob_view}
use Rattle.aud_client.proofs.frame.are_same.Given as goal

-- those so far are the same
abbrev pub invariant-loop-i : goal.invariant-loop-i
invariant-loop-i l =
    pointwise bytes_eq (map blob_bytes (map blob_view (drop l.i l.bin))) (drop l.i l.others)
    ≡ pointwise bytes_eq (map blob_bytes (map blob_view l.bin)) l.others
