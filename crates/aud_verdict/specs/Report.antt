-- The report, and what is written in its place where a line is refused.
use Rattle.std.specs.Prelude.{ℕ, ◌-◌, List, ◌++◌, codes, decimal, flat_map, length, count_by}
use Rattle.aud_verdict.specs.declared.verdict.Verdict.{Verdict}
use Rattle.aud_verdict.specs.declared.verdict.Verdict.TheVariants.{Yes, No}
use Rattle.aud_verdict.specs.declared.verdict.SessionVerdict.{SessionVerdict}
use Rattle.aud_cert.specs.Fault.{fault_text}
use Rattle.aud_verdict.specs.YesOf.{is_yes}

-- the line of a session
abbrev pub line_of : List ℕ → Verdict → List ℕ
line_of pid (Yes got tail turns) = codes "yes " ++ pid ++ codes " got=" ++ decimal got ++ codes " tail=" ++ decimal tail ++ codes " turns=" ++ decimal turns ++ codes "\n"
line_of pid (No fault) = codes "no " ++ pid ++ codes " " ++ fault_text fault ++ codes "\n"

-- the last line: how many sessions there are, and how many of them are answered yes and no
abbrev pub totals_line : List SessionVerdict → List ℕ
totals_line entries = codes "sessions=" ++ decimal (length entries) ++ codes " yes=" ++ decimal (count_by is_yes entries) ++ codes " no=" ++ decimal (length entries - count_by is_yes entries) ++ codes "\n"

-- the report: a line for each session, and the counts
abbrev pub report_text : List SessionVerdict → List ℕ
report_text entries = flat_map (λ entry. line_of entry.pid entry.verdict) entries ++ totals_line entries

-- the one line that stands for an input whose line n is refused by this name
abbrev pub refusal_line : ℕ → List ℕ → List ℕ
refusal_line n name = codes "line " ++ decimal n ++ codes ": " ++ name ++ codes "\n"
