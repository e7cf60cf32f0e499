use Rattle.std.proofs.Common.{◌≡◌, ◌++◌, map, take}
use Rattle.aud_explanation.specs.declared.cause.CauseOf.TheVariants.{Fault}
use Rattle.aud_explain_app.specs.Lent.{cause_of, cause_told, causes_of_refusals}
use Rattle.aud_explain_app.proofs.lent.causes_lent.Given as goal

abbrev pub invariant-loop-told : goal.invariant-loop-told
invariant-loop-told l = map cause_told l.lent.items ≡ map (cause_of Fault) l.causes ++ causes_of_refusals (take l.told-index l.refused)
