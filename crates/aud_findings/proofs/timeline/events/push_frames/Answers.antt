use Rattle.std.proofs.Common.{◌++◌, ◌∙◌}
use Rattle.aud_rows.specs.declared.row.Role.TheVariants as role
use Rattle.aud_rows.specs.StayRows.{frame_row}
use Rattle.aud_findings.specs.ClientEvents.{row_events, stay_row_events}
use Rattle.aud_findings.proofs.Numbers.{added-more}
use Rattle.aud_findings.proofs.timeline.events.push_frames.Goals as goal

pub loop-frame-preserved : goal.loop-frame-preserved
loop-frame-preserved c =
    let cluster = c.args.sheet.now.recording.now in
    let pid = c.args.pid.now in
    added-more (λ frame. stay_row_events cluster.stream pid c.args.stay.now (frame_row cluster c.args.sheet.now.lines.now c.args.tap.now.place c.args.number frame role.Later)) c.loop-frame.frame
    c.args.events.now.items c.loop-frame.events.items c.push_row.new.events.items c.loop-frame.invariant
    (c.in_ok-push_row.ensures ∙ (λ i. c.loop-frame.events.items ++ row_events cluster.stream pid (c.is_asked-asked.ensures i) (c.frame_row-row.ensures.row i)))
