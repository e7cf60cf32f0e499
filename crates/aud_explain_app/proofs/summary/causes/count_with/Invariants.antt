use Rattle.std.proofs.Common.{◌≡◌, ◌^◌, ◌-◌, take, min, sum_by}
use Rattle.std.specs.Option.{option_copied}
use Rattle.aud_explain_app.specs.Summary.Causes.{sessions_with}
use Rattle.aud_explain_app.proofs.summary.causes.count_with.Given as goal

abbrev pub invariant-loop-one : goal.invariant-loop-one
invariant-loop-one l = l.count ≡ min (sum_by (sessions_with (option_copied l.id)) (take l.one-index l.told)) (2 ^ 64 - 1)
