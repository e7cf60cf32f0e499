use Rattle.std.proofs.Common.{◌≡◌, ◌++◌, map, take}
use Rattle.aud_explain_app.specs.Summary.Causes.{name_of}
use Rattle.aud_explain_app.specs.CausesTold.{names_of}
use Rattle.aud_explain_app.proofs.causes_told.push_names.Given as goal

abbrev pub invariant-loop-cause : goal.invariant-loop-cause
invariant-loop-cause l = map name_of l.ids.items ≡ map name_of l.fn.ids.items ++ names_of (take l.cause-index l.causes)
