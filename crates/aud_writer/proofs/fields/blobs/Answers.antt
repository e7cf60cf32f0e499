use Rattle.std.proofs.Common.{arith, ap, ◌∙◌}
use Rattle.std.proofs.lemmas.Grind.{common_steps}
use Rattle.serde_json.specs.Data.{string}
use Rattle.aud_writer.specs.Written.{encoded}
use Rattle.aud_writer.proofs.Lists.{blobs-more, decode_back-more, view-String}
use Rattle.aud_writer.proofs.fields.blobs.Goals as goal

pub loop-bytes-preserved : goal.loop-bytes-preserved
loop-bytes-preserved c =
    let text = c.in_ok-text.ensures in
    let before = c.loop-bytes.invariant in
    let here = c.loop-bytes-test.true in
    let item = c.bytes-item.is in
    let same = view-String c.in_ok-text.text ∙ ap string text.text ∙ ap (λ b. string (encoded b)) c.as_slice.ensures in
    let longer = blobs-more c.loop-bytes.list.items _ _ _ _ here item same before.list in
    let back = rw c.as_slice.ensures at text.back in
    record {
      list = grind (arith, common_steps);
      back = decode_back-more _ _ _ here item back before.back;
    }
