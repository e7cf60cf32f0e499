-- The report on the whole, of the reports on the parts; or what is wrong with these.
use Rattle.std.specs.Prelude.{ℕ, ◌==◌, not, nat_eq, Bool, is_some, if◌then◌else◌, List, [], ◌∷◌, ◌++◌, length, take, drop, codes, slice_get, unwrap_or, Option, Some, None, option_map, option_and_then, Result, Ok, Err}
use Rattle.std.specs.List.{filter_map, list_all, position_from, starts_with}
use Rattle.std.specs.Option.{option_or}
use Rattle.std.specs.Cmp.Lexicographic.{pointwise}
use Rattle.std.specs.Str.{bytes_eq}
use Rattle.aud_base.specs.Lists.{numbers_from}
use Rattle.aud_base.specs.Steps.{◌>>=◌, need, guard}
use Rattle.aud_node.specs.Stream.{Text}
use Rattle.aud_parts.specs.declared.listing.Listing.{Listing}
use Rattle.aud_parts.specs.declared.listing.ListedSession.{ListedSession}
use Rattle.aud_parts.specs.declared.merging.fault.ReportFault.{ReportFault}
use Rattle.aud_parts.specs.declared.merging.fault.ReportFault.TheVariants.{Refused, NotWhole, OtherSplit, Doubled}
use Rattle.aud_parts.specs.declared.merging.fault.MergeFault.{MergeFault}
use Rattle.aud_parts.specs.declared.merging.fault.MergeFault.TheVariants.{Report, Missing}
use Rattle.aud_parts.specs.declared.merging.Merged.{Merged}
use Rattle.aud_parts.specs.declared.merging.MergeAnswer.{MergeAnswer}
use Rattle.aud_parts.specs.declared.merging.MergeAnswer.TheVariants.{Whole, Faults}
use Rattle.aud_parts.specs.Listing.{pids_by_part}
use Rattle.aud_parts.specs.ReportLines.{ReportLine, says_yes, report_in, report_of, pids_of}

-- ---- one report

-- the first part whose sessions have these pids, in this order; parts are seen as the pids of their sessions
abbrev pub part_of : List (List Text) → List Text → Option ℕ
part_of parts pids = position_from (λ own. pointwise bytes_eq own pids) 0 parts

-- what is written where a line of the input is refused
abbrev pub is_refusal : List ℕ → Bool
is_refusal text = starts_with nat_eq text (codes "line ")

-- the part that a report is of, and its lines; or what is wrong with it by itself
unfoldable pub told : List (List Text) → List ℕ → Result (ℕ × List ReportLine) ReportFault
told parts text = do
  report ← guard Refused (not (is_refusal text))
  lines ← need NotWhole (report_in text)
  part ← need OtherSplit (part_of parts (pids_of lines))
  Ok (part, lines)

-- ---- all reports

-- the lines, if they are of this part
abbrev pub lines_if : ℕ → Result (ℕ × List ReportLine) ReportFault → Option (List ReportLine)
lines_if part (Err fault) = None
lines_if part (Ok of) = if of.0 == part then Some of.1 else None

-- the lines of the first report on the part
abbrev pub lines_on : List (List Text) → List (List ℕ) → ℕ → Option (List ReportLine)
lines_on parts [] part = None
lines_on parts (text ∷ texts) part = option_or (lines_if part (told parts text)) (lines_on parts texts part)

-- what is wrong with a report that tells this, where these stand before it
abbrev pub fault_after : List (List Text) → List (List ℕ) → Result (ℕ × List ReportLine) ReportFault → Option ReportFault
fault_after parts before (Err fault) = Some fault
fault_after parts before (Ok of) = if is_some (lines_on parts before of.0) then Some Doubled else None

-- what is wrong with the report with this number
abbrev pub fault_of : List (List Text) → List (List ℕ) → ℕ → Option MergeFault
fault_of parts reports number =
    option_and_then (λ text. option_map (Report number) (fault_after parts (take number reports) (told parts text)))
    (slice_get reports number)

-- the part, if it has no report
abbrev pub missing_at : List (List Text) → List (List ℕ) → ℕ → Option MergeFault
missing_at parts reports part = if is_some (lines_on parts reports part) then None else Some (Missing part)

-- all that is wrong: report by report, and then the parts that have none
abbrev pub faults_in : List (List Text) → List (List ℕ) → List MergeFault
faults_in parts reports =
    filter_map (fault_of parts reports) (numbers_from 0 (length reports))
    ++ filter_map (missing_at parts reports) (numbers_from 0 (length parts))

-- ---- the report on the whole

-- what is left of the parts' lines after the next one of this part
abbrev pub after_next : ℕ → (ℕ → List ReportLine) → ℕ → List ReportLine
after_next part left of = if of == part then drop 1 (left of) else left of

-- of each session in the order of the listing the line that is next in its part's report
abbrev pub merged_lines : (ℕ → List ReportLine) → List ListedSession → List ReportLine
merged_lines left [] = []
merged_lines left (s ∷ sessions) = take 1 (left s.part) ++ merged_lines (after_next s.part left) sessions

-- the lines of the part's report, if it has one
abbrev pub own_lines : List (List Text) → List (List ℕ) → ℕ → List ReportLine
own_lines parts reports part = unwrap_or (lines_on parts reports part) []

-- the report with these lines, and whether all of them are yes
abbrev pub merged_of : List ReportLine → Merged
merged_of lines =
    record { text = report_of lines; are_all_yes = list_all says_yes lines }

-- the report, if nothing is wrong
abbrev pub answer_of : List MergeFault → Merged → MergeAnswer
answer_of [] whole = Whole whole
answer_of (fault ∷ faults) whole = Faults (fault ∷ faults)

-- the report on the whole, or all that is wrong with the reports
abbrev pub merged : Listing → List (List ℕ) → MergeAnswer
merged listing reports =
    let parts = pids_by_part listing in
    answer_of (faults_in parts reports) (merged_of (merged_lines (own_lines parts reports) listing.sessions))
