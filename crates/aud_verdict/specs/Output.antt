-- What a run writes, and how it ends.
use Rattle.std.specs.Prelude.{ℕ, List, Bool, if◌then◌else◌, Option, is_some}
use Rattle.std.specs.List.{list_all}
use Rattle.aud_verdict.specs.declared.output.Status.{Status}
use Rattle.aud_verdict.specs.declared.output.Status.TheVariants.{AllYes, SomeNo, Refused}
use Rattle.aud_verdict.specs.declared.verdict.SessionVerdict.{SessionVerdict}
use Rattle.aud_verdict.specs.YesOf.{is_yes}
use Rattle.aud_verdict.specs.Report.{report_text, refusal_line}
use Rattle.aud_verdict.specs.Proving.{prove_text}

-- how a run ends, and the whole text that it writes
pub record OutputSeen : Type 0 where
  pub status : Status
  pub text : List ℕ

-- how a run ends whose answers are all good, or are not
abbrev pub status_of : Bool → Status
status_of are_good = if are_good then AllYes else SomeNo

-- the output of an audit with these answers
abbrev pub report_of : List SessionVerdict → OutputSeen
report_of entries = record { status = status_of (list_all is_yes entries); text = report_text entries }

-- the output with these certificates, a place for each session
abbrev pub proving_of : List (Option (List ℕ)) → OutputSeen
proving_of proofs = record { status = status_of (list_all is_some proofs); text = prove_text proofs }

-- the output where this is the first refused line, and the name of its refusal
abbrev pub refusal_of : ℕ → List ℕ → OutputSeen
refusal_of n name = record { status = Refused; text = refusal_line n name }
