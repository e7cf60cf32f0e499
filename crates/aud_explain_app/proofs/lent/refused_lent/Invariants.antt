use Rattle.std.proofs.Common.{◌≡◌, map, take}
use Rattle.aud_explain_app.specs.Lent.{recoveries_shown, recovery_told}
use Rattle.aud_explain_app.proofs.lent.refused_lent.Given as goal

abbrev pub invariant-loop-told : goal.invariant-loop-told
invariant-loop-told l = map recovery_told l.lent.items ≡ recoveries_shown (take l.told-index l.refused)
