-- What a merge gives, in the words of the verdicts on the sessions.
use Rattle.std.specs.Prelude.{◌≡◌, ℕ, not, Bool, true, if◌then◌else◌, List, [], ◌∷◌, map, Some, IsPermutation}
use Rattle.std.specs.List.{All, list_all}
use Rattle.aud_base.specs.Lists.{numbers_from}
use Rattle.aud_node.specs.Stream.{Text}
use Rattle.aud_cert.specs.Fault.{fault_text}
use Rattle.aud_reader.specs.Lines.{has_newline}
use Rattle.aud_verdict.specs.declared.verdict.Verdict.{Verdict}
use Rattle.aud_verdict.specs.declared.verdict.Verdict.TheVariants.{Yes, No}
use Rattle.aud_verdict.specs.declared.verdict.SessionVerdict.{SessionVerdict}
use Rattle.aud_verdict.specs.YesOf.{is_yes}
use Rattle.aud_verdict.specs.Report.{report_text}
use Rattle.aud_parts.specs.declared.listing.Listing.{Listing}
use Rattle.aud_parts.specs.declared.listing.ListedSession.{ListedSession}
use Rattle.aud_parts.specs.declared.merging.Merged.{Merged}
use Rattle.aud_parts.specs.declared.merging.MergeAnswer.TheVariants.{Whole}
use Rattle.aud_parts.specs.Listing.{is_of_part, is_listing, pids_by_part, are_within}
use Rattle.aud_parts.specs.ReportLines.{ReportLine, says_yes, report_of, pids_of}
use Rattle.aud_parts.specs.Merged.{lines_on, merged}

-- ---- of the verdicts to the report

-- of what stands beside the sessions, that which stands beside those of the part
abbrev pub beside_part : {X : Type 0} → List ListedSession → List X → ℕ → List X
beside_part [] xs part = []
beside_part (s ∷ sessions) [] part = []
beside_part (s ∷ sessions) (x ∷ xs) part =
    if is_of_part part s then x ∷ beside_part sessions xs part else beside_part sessions xs part

-- the report on the part, where these are the verdicts on all sessions
abbrev pub report_on_part : Listing → List SessionVerdict → ℕ → List ℕ
report_on_part listing entries part = report_text (beside_part listing.sessions entries part)

-- the reports on the parts
abbrev pub reports_on_parts : Listing → List SessionVerdict → List (List ℕ)
reports_on_parts listing entries = map (report_on_part listing entries) (numbers_from 0 listing.parts)

-- the verdict is told in one line: no offset in it has a newline
abbrev pub is_line : Verdict → Bool
is_line (Yes got tail turns) = true
is_line (No fault) = not (has_newline (fault_text fault))

-- so is the verdict on the session
abbrev pub is_one_line : SessionVerdict → Bool
is_one_line entry = is_line entry.verdict

-- the pids of the verdicts
abbrev pub pids_of_entries : List SessionVerdict → List Text
pids_of_entries entries = map (λ (entry : SessionVerdict). entry.pid) entries

-- the pids of the listing
abbrev pub pids_listed : Listing → List Text
pids_listed listing = map (λ (s : ListedSession). s.pid) listing.sessions

-- for all verdicts on the sessions of a listing: of the reports on the parts, in whatever order, the merge gives the
-- report on the whole
abbrev pub MergesReports : Type 0
MergesReports =
    (listing : Listing) (entries : List SessionVerdict) (reports : List (List ℕ))
    → is_listing listing ≡ true → pids_of_entries entries ≡ pids_listed listing
    → list_all is_one_line entries ≡ true → IsPermutation (reports_on_parts listing entries) reports
    → merged listing reports
    ≡ Whole (record { text = report_text entries; are_all_yes = list_all is_yes entries })

-- ---- of the report to the lines

-- the report has these lines, one for each session in the order of the listing, and those of each part are the lines of
-- that part's report
pub record IsMergeOf (listing : Listing) (reports : List (List ℕ)) (whole : Merged) : Type 0 where
  pub lines : List ReportLine
  pub text : whole.text ≡ report_of lines
  pub are_all_yes : whole.are_all_yes ≡ list_all says_yes lines
  pub pids : pids_of lines ≡ pids_listed listing
  pub own : All
      (λ part. lines_on (pids_by_part listing) reports part
      ≡ Some (beside_part listing.sessions lines part))
      (numbers_from 0 listing.parts)

-- where a merge gives a report, it is of the lines of the reports
abbrev pub MergesLines : Type 0
MergesLines =
    (listing : Listing) (reports : List (List ℕ)) (whole : Merged) → are_within listing ≡ true
    → merged listing reports ≡ Whole whole → IsMergeOf listing reports whole
