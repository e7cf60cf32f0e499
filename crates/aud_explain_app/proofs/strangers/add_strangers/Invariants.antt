use Rattle.std.proofs.Common.{take}
use Rattle.aud_explain_app.specs.Chosen.{IsIndex}
use Rattle.aud_explain_app.specs.Strangers.{AreAdded, asked_in_vain}
use Rattle.aud_explain_app.proofs.strangers.add_strangers.Given as goal

abbrev pub invariant-loop-recovery : goal.invariant-loop-recovery
invariant-loop-recovery l =
    IsIndex l.index l.sessions.items × AreAdded l.recording l.whole (asked_in_vain l.recording (take l.recovery-index l.recoveries)) l.fn.sessions.items l.sessions.items
