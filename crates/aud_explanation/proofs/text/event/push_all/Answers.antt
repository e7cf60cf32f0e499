use Rattle.std.proofs.Common.{string_bytes}
use Rattle.aud_explanation.proofs.Pieces.{end-more, pieces-more}
use Rattle.aud_explanation.proofs.text.event.push_all.Goals as goal

pub loop-event-preserved : goal.loop-event-preserved
loop-event-preserved c = (
  pieces-more (string_bytes c.loop-event.out) (string_bytes c.push_event.new.out) (string_bytes c.args.out.now) c.args.column c.loop-event.column c.loop-event.event-index c.args.events.now _ c.loop-event-test.true c.loop-event.invariant.0 c.loop-event.invariant.1 c.in_ok-column.ensures.text,
  end-more c.args.column c.loop-event.column _ c.loop-event.event-index c.args.events.now _ c.loop-event-test.true c.loop-event.invariant.1 c.in_ok-column.ensures.end,
)
