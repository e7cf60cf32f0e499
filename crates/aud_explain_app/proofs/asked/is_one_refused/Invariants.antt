use Rattle.std.proofs.Common.{◌≡◌, drop}
use Rattle.aud_explain_app.specs.Asked.{is_one_refused}
use Rattle.aud_explain_app.proofs.asked.is_one_refused.Given as goal

-- whether one of those to come was
abbrev pub invariant-loop-number : goal.invariant-loop-number
invariant-loop-number l = is_one_refused l.all (drop l.number-index l.numbers) ≡ is_one_refused l.all l.numbers
