use Rattle.std.proofs.Common.{◌≡◌, ◌++◌, flat_map}
use Rattle.aud_node.specs.Lists.{numbers_from}
use Rattle.aud_rows.specs.StayRows.{frame_row}
use Rattle.aud_rows.specs.declared.row.Role.TheVariants as role
use Rattle.aud_findings.specs.ClientEvents.{stay_row_events}
use Rattle.aud_findings.proofs.timeline.events.push_frames.Given as goal

abbrev pub invariant-loop-frame : goal.invariant-loop-frame
invariant-loop-frame l =
    l.events.items
    ≡ l.initial.events.items
    ++ flat_map (λ frame. stay_row_events l.sheet.recording.now.stream l.pid l.stay (frame_row l.sheet.recording.now l.sheet.lines.now l.tap.place l.number frame role.Later)) (numbers_from 0 l.frame)
