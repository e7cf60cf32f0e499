use Rattle.std.proofs.Common.{◌≡◌, ◌<◌, length, map, arith, ◌∙◌}
use Rattle.std.proofs.lemmas.List.{length-map}
use Rattle.aud_sio.specs.Message.{blob_bytes}
use Rattle.aud_sio.specs.Assembly.{blob_view}
use Rattle.aud_check.proofs.Steps.{same_more}
use Rattle.aud_check.proofs.AlteredFrames.{is_attachment_part}
use Rattle.aud_check.proofs.content.part_of_attachments.Goals as goal

pub returns-in-Some : goal.returns-in-Some
returns-in-Some c =
    let within : c.loop-number.number < length c.args.bytes.now = omega arith in
    let same : length c.args.blobs.now ≡ length c.args.bytes.now = omega arith in
    is_attachment_part blob_view blob_bytes c.args.blobs.now c.args.bytes.now c.loop-number.number c.index-blobs-number.result c.index-bytes-number.result c.loop-number-test.true c.index-blobs-number.is
    within c.index-bytes-number.is c.in-Some.at
    (length-map (map blob_view c.args.blobs.now) blob_bytes ∙ length-map c.args.blobs.now blob_view ∙ same) c.loop-number.invariant c.in-Some.ensures

pub loop-number-preserved : goal.loop-number-preserved
loop-number-preserved c =
    let within : c.loop-number.number < length c.args.bytes.now = omega arith in
    same_more blob_view blob_bytes c.args.blobs.now c.args.bytes.now c.loop-number.number c.index-blobs-number.result c.index-bytes-number.result c.loop-number-test.true c.index-blobs-number.is
    within c.index-bytes-number.is c.in_default.ensures c.loop-number.invariant
