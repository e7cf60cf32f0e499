use Rattle.std.proofs.Common.{◌∙◌, ap, length}
use Rattle.aud_parts.proofs.SlotLemmas.{length-next, merged-more}
use Rattle.aud_parts.proofs.merging.merged_lines.Goals as goal

pub loop-session-preserved : goal.loop-session-preserved
loop-session-preserved c =
    let slots = c.args.slots.now in
    let s = c.session-item.result in
    let before = c.loop-session.invariant in
    let put = c.in_ok-push_next.ensures in
    record {
      counts = ap length put.next ∙ length-next slots c.loop-session.next.items s.part ∙ before.counts;
      lines = merged-more slots c.args.sessions.now c.loop-session.session-index s c.loop-session.merged.items _ c.loop-session.next.items _ _ c.loop-session-test.true c.session-item.is before.counts put.merged put.next before.lines;
    }
