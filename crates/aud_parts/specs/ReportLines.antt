-- A report, read again: the lines of its sessions, where its last line has their counts.
use Rattle.std.specs.Prelude.{ℕ, ◌-◌, Bool, true, false, if◌then◌else◌, List, [], ◌∷◌, ◌++◌, length, map, codes, decimal, count_by, flat_map, Option, Some, None, option_map, option_and_then}
use Rattle.std.specs.Str.{bytes_eq}
use Rattle.aud_tap.specs.Forms.{passing}
use Rattle.aud_tap.specs.WellFormed.{is_session_id}
use Rattle.aud_node.specs.Stream.{Text}
use Rattle.aud_parts.specs.Cut.{cut_at, whole_lines}

-- the line of a session: its pid, whether it is answered yes, and the whole line, without a newline
pub record ReportLine : Type 0 where
  pub pid : Text
  pub is_yes : Bool
  pub text : List ℕ

-- the answer is yes
abbrev pub says_yes : ReportLine → Bool
says_yes line = line.is_yes

-- the answer that a line begins with
abbrev pub answer_in : List ℕ → Option Bool
answer_in word =
    if bytes_eq word (codes "yes") then Some true
    else (if bytes_eq word (codes "no") then Some false else None)

-- the line with this answer and this pid
abbrev pub with_pid : List ℕ → List ℕ → Bool → Option ReportLine
with_pid text pid is_yes =
    option_map (λ own. record { pid = own; is_yes = is_yes; text = text }) (passing is_session_id pid)

-- the line with its first two words
abbrev pub with_words : List ℕ → List ℕ → List ℕ × List ℕ → Option ReportLine
with_words text word rest = option_and_then (with_pid text rest.0) (answer_in word)

-- `yes` or `no`, a pid, and more
abbrev pub report_line : List ℕ → Option ReportLine
report_line text =
    option_and_then (λ (cut : List ℕ × List ℕ). option_and_then (with_words text cut.0) (cut_at 32 cut.1))
    (cut_at 32 text)

-- the lines of sessions; none where one of them isn't
abbrev pub report_lines : List (List ℕ) → Option (List ReportLine)
report_lines [] = Some []
report_lines (text ∷ texts) =
    option_and_then (λ line. option_map (λ (lines : List ReportLine). line ∷ lines) (report_lines texts))
    (report_line text)

-- the last line of a report on so many sessions, so many of them answered yes
abbrev pub totals_of : ℕ → ℕ → List ℕ
totals_of sessions good =
    codes "sessions=" ++ decimal sessions ++ codes " yes=" ++ decimal good
    ++ codes " no=" ++ decimal (sessions - good)

-- the last line of a report with these lines
abbrev pub totals : List ReportLine → List ℕ
totals lines = totals_of (length lines) (count_by says_yes lines)

-- the lines, if this is their last line
abbrev pub with_totals : List ℕ → List ReportLine → Option (List ReportLine)
with_totals last lines = if bytes_eq last (totals lines) then Some lines else None

-- the last of a text and these
abbrev pub last_line : List ℕ → List (List ℕ) → List ℕ
last_line text [] = text
last_line text (next ∷ texts) = last_line next texts

-- those before it
abbrev pub front_lines : List ℕ → List (List ℕ) → List (List ℕ)
front_lines text [] = []
front_lines text (next ∷ texts) = text ∷ front_lines next texts

-- the lines of sessions, where the last line has their counts
abbrev pub report_of_lines : List (List ℕ) → Option (List ReportLine)
report_of_lines [] = None
report_of_lines (text ∷ texts) =
    option_and_then (with_totals (last_line text texts)) (report_lines (front_lines text texts))

-- the lines of the sessions of a report; none where the text is no whole report
abbrev pub report_in : List ℕ → Option (List ReportLine)
report_in text = option_and_then report_of_lines (whole_lines text)

-- the line and a newline
abbrev pub ended_line : ReportLine → List ℕ
ended_line line = line.text ++ codes "\n"

-- the report with these lines
abbrev pub report_of : List ReportLine → List ℕ
report_of lines = flat_map ended_line lines ++ totals lines ++ codes "\n"

-- the pids of the lines
abbrev pub pids_of : List ReportLine → List Text
pids_of lines = map (λ (line : ReportLine). line.pid) lines
