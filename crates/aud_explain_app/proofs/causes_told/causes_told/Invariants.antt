use Rattle.std.proofs.Common.{◌≡◌, ◌++◌, map, take}
use Rattle.aud_explain_app.specs.Summary.Causes.{name_of}
use Rattle.aud_explain_app.specs.CausesTold.{names_of, names_of_refusals}
use Rattle.aud_explain_app.proofs.causes_told.causes_told.Given as goal

abbrev pub invariant-loop-told : goal.invariant-loop-told
invariant-loop-told l = map name_of l.ids.items ≡ names_of l.explained.causes.items ++ names_of_refusals (take l.told-index l.told-items)
