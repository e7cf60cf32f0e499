-- How a run of `explain` ends.
use Rattle.std.specs.Prelude.{Bool, false, not, ◌&&◌, ◌||◌, List, length, nat_lt}
use Rattle.std.specs.List.{filter, list_any}
use Rattle.aud_cli.specs.declared.fail_on.FailOn.{FailOn}
use Rattle.aud_cli.specs.FailOn as words
use Rattle.aud_session_facts.specs.declared.asked.Recovery.{Recovery}
use Rattle.aud_session_facts.specs.Recoveries.{is_refused}
use Rattle.aud_verdict.specs.declared.output.Status.{Status}
use Rattle.aud_verdict.specs.declared.verdict.SessionVerdict.{SessionVerdict}
use Rattle.aud_verdict.specs.declared.verdict.Verdict.{Verdict}
use Rattle.aud_verdict.specs.declared.verdict.Verdict.TheVariants.{Yes, No}
use Rattle.aud_verdict.specs.Output.{status_of}

-- a session with this verdict makes status 1
abbrev pub fails : FailOn → Verdict → Bool
fails fail_on (Yes got tail turns) = false
fails fail_on (No fault) = words.fails fail_on fault

-- one of the sessions does
abbrev pub some_fails : FailOn → List SessionVerdict → Bool
some_fails fail_on verdicts = list_any (λ (s : SessionVerdict). fails fail_on s.verdict) verdicts

-- one of the recoveries was refused, and that makes status 1
abbrev pub fails_refused : FailOn → List Recovery → Bool
fails_refused fail_on recoveries = fail_on.refused && nat_lt 0 (length (filter is_refused recoveries))

-- all is well where neither is so, nor that the answers say nothing, where that makes status 1
abbrev pub status_by : FailOn → Bool → List SessionVerdict → List Recovery → Status
status_by fail_on says_nothing verdicts recoveries =
    status_of (not (fail_on.nothing && says_nothing || (fails_refused fail_on recoveries || some_fails fail_on verdicts)))
