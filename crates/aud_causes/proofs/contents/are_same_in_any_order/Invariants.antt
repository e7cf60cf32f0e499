use Rattle.std.proofs.Common.{◌≡◌, drop, map}
use Rattle.std.specs.List.{list_all}
use Rattle.aud_sio.specs.Message.{blob_bytes}
use Rattle.aud_sio.specs.Assembly.{blob_view}
use Rattle.aud_causes.specs.Contents.{is_as_often}
use Rattle.aud_causes.proofs.contents.are_same_in_any_order.Given as goal

-- each of the others so far is there as often
abbrev pub invariant-loop-other : goal.invariant-loop-other
invariant-loop-other l =
    list_all (is_as_often (map blob_bytes (map blob_view l.bin)) l.others) (drop l.other-index l.others)
    ≡ list_all (is_as_often (map blob_bytes (map blob_view l.bin)) l.others) l.others
