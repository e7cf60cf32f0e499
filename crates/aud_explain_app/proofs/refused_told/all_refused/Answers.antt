use Rattle.aud_explain_app.specs.Refused.{IsRefusedTold}
use Rattle.aud_explain_app.proofs.Zip.{zip_more}
use Rattle.aud_explain_app.proofs.refused_told.all_refused.Goals as goal

pub loop-recovery-preserved : goal.loop-recovery-preserved
loop-recovery-preserved c =
    zip_more (IsRefusedTold c.args.sheet.now.recording.now c.args.sheet.now.lines.now) c.deref-recovery-items.result.now c.loop-recovery.recovery-index _
    c.loop-recovery.told.items c.push.new.self.items c.in_ok-refused_told.field-0
    c.loop-recovery-test.true c.in_ok-refused_told.ensures c.in_ok-push.ensures.items c.loop-recovery.invariant
