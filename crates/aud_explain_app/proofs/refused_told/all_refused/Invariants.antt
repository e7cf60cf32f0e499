use Rattle.std.proofs.Common.{take}
use Rattle.std.specs.List.{AllZip}
use Rattle.aud_explain_app.specs.Refused.{IsRefusedTold}
use Rattle.aud_explain_app.proofs.refused_told.all_refused.Given as goal

abbrev pub invariant-loop-recovery : goal.invariant-loop-recovery
invariant-loop-recovery l = AllZip (IsRefusedTold l.sheet.recording.now l.sheet.lines.now) (take l.recovery-index l.recovery-items) l.told.items
