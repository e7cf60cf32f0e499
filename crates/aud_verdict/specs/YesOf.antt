-- Which verdicts are yes.
use Rattle.std.specs.Prelude.{Bool, true, false}
use Rattle.aud_verdict.specs.declared.verdict.Verdict.{Verdict}
use Rattle.aud_verdict.specs.declared.verdict.Verdict.TheVariants.{Yes, No}
use Rattle.aud_verdict.specs.declared.verdict.SessionVerdict.{SessionVerdict}

-- whether a verdict is yes
abbrev pub yes_of : Verdict → Bool
yes_of (Yes got tail turns) = true
yes_of (No fault) = false

-- whether the verdict on a session is yes
abbrev pub is_yes : SessionVerdict → Bool
is_yes entry = yes_of entry.verdict
