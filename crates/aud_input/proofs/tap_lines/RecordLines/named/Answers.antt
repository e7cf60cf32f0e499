use Rattle.std.proofs.Common.{◌∙◌}
use Rattle.aud_input.proofs.LineRunsLemmas.{taps-more}
use Rattle.aud_input.proofs.tap_lines.RecordLines.named.Goals as goal

pub loop-tap-preserved : goal.loop-tap-preserved
loop-tap-preserved c =
    taps-more c.args.runs.now c.deref-tap-items.result.now c.loop-tap.tap-index c.tap-item.result c.in_ok-named.field-0 c.loop-tap.taps.items c.push.new.self.items c.deref.result.now
    c.loop-tap-test.true c.tap-item.is (c.deref.ensures.value ∙ c.in_ok-lines.ensures) c.in_ok-named.ensures c.loop-tap.invariant c.in_ok-push.ensures.items
