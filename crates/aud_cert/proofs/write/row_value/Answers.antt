use Rattle.std.proofs.Common.{ap, ◌∙◌}
use Rattle.serde_json.specs.Data.{string}
use Rattle.serde_json.specs.View.{items_view}
use Rattle.aud_cert.specs.Text.{whole}
use Rattle.aud_cert.proofs.Lists.{items-after}
use Rattle.aud_cert.proofs.write.row_value.Goals as goal

pub loop-number-preserved : goal.loop-number-preserved
loop-number-preserved c =
    ap items_view c.in_ok-push-2.ensures.items
    ∙ items-after whole (string c.args.name.now) c.loop-number.items.items c.args.numbers.now c.loop-number.number-index c.from.result 0 c.loop-number-test.true c.from.ensures c.loop-number.invariant
