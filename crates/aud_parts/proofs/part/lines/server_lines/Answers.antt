use Rattle.aud_parts.specs.ServerLines.{HasLinesOf, NamesLines}
use Rattle.aud_parts.proofs.ListSteps.{each-more}
use Rattle.aud_parts.proofs.part.lines.server_lines.Goals as goal

pub loop-tap-preserved : goal.loop-tap-preserved
loop-tap-preserved c = record {
  count = each-more HasLinesOf c.args.part.now c.loop-tap.tap-index c.tap-item.result c.loop-tap.all.items c.push.new.self.items c.in_ok-tap_lines.field-0
      c.loop-tap-test.true c.tap-item.is c.loop-tap.invariant.count c.in_ok-tap_lines.ensures.count c.in_ok-push.ensures.items;
  named = each-more (NamesLines c.args.taps.now c.args.lines.now) c.args.part.now c.loop-tap.tap-index c.tap-item.result c.loop-tap.all.items c.push.new.self.items c.in_ok-tap_lines.field-0
      c.loop-tap-test.true c.tap-item.is c.loop-tap.invariant.named c.in_ok-tap_lines.ensures.named c.in_ok-push.ensures.items;
}
