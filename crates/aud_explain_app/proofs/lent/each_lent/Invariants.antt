use Rattle.std.proofs.Common.{◌≡◌, map, take}
use Rattle.aud_explain_app.specs.Lent.{cause_of, cause_told}
use Rattle.aud_explain_app.proofs.lent.each_lent.Given as goal

abbrev pub invariant-loop-cause : goal.invariant-loop-cause
invariant-loop-cause l = map cause_told l.lent.items ≡ map (cause_of l.of) (take l.cause-index l.causes)
