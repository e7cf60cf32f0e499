use Rattle.std.proofs.Common.{map, sym, ap, subst}
use Rattle.aud_client.specs.StaySeen.{FrameSeen}
use Rattle.aud_check.proofs.Steps.{entries_more}
use Rattle.aud_check.specs.Content.{IsAltered}
use Rattle.aud_check.proofs.AlteredFrames.{is_altered}
use Rattle.aud_check.proofs.content.first_altered.Goals as goal

pub returns-in-Some : goal.returns-in-Some
returns-in-Some c =
    let frames = map (λ frame. frame.now) c.args.frames.now in
    subst (λ position. IsAltered c.args.stream.now frames (record { frame = c.loop-number.number; position = position; part = c.in-Some.part }))
    (sym (ap (λ (frame : FrameSeen). frame.position) c.frame.view_is))
    (is_altered (λ frame. frame.now) c.args.stream.now c.args.frames.now c.loop-number.number c.index-frames-number.result c.loop-number-test.true c.index-frames-number.is c.loop-number.invariant
    c.in-Some.part c.in-Some.ensures)

pub loop-number-preserved : goal.loop-number-preserved
loop-number-preserved c =
    entries_more (λ frame. frame.now) c.args.stream.now c.args.frames.now c.loop-number.number c.index-frames-number.result c.loop-number-test.true c.index-frames-number.is c.loop-number.invariant
    c.in_default.ensures
