use Rattle.serde_json.proofs.Views.{view-Array}
use Rattle.aud_writer.proofs.Lists.{put-some}
use Rattle.std.proofs.Common.{◌∙◌}
use Rattle.aud_writer.proofs.fields.with_list.Goals as goal

pub returns : goal.returns
returns c =
    let some = rw c.as_slice.ensures.value at c.if-is_empty.ensures in
    c.in_ok-put.ensures.ok ∙ rw (view-Array c.args.list) (put-some c.args.key.now c.args.list.items _ some)
