-- What `explain` writes, and how it ends.
use Rattle.std.specs.Prelude.{◌≡◌, ◌-◌, ◌^◌, ◌⊎◌, ℕ, List, [], ◌∷◌, ◌++◌, codes, count_by, length, map, min, sum_by, None, Option, Some}
use Rattle.std.specs.Borrow.{Bor}
use Rattle.std.specs.List.{filter}
use Rattle.aud_node.specs.Cluster.{Cluster, cluster_of}
use Rattle.aud_node.specs.Recoverable.{is_recoverable}
use Rattle.aud_node.specs.Stream.{Text}
use Rattle.aud_input.specs.declared.part_lines.PartLines.{PartLines}
use Rattle.aud_input.specs.declared.reading.Recorded.{Recorded}
use Rattle.aud_input.specs.declared.reading.Size.{Size}
use Rattle.aud_input.specs.declared.refusal.Refusal.{Refusal}
use Rattle.aud_input.specs.declared.input_file.InputFile.{InputFile}
use Rattle.aud_input.specs.Files.{AreRecorded, IsRefused}
use Rattle.aud_input.specs.InputFiles.{input_files}
use Rattle.aud_input.specs.LineRuns.{taps_named}
use Rattle.aud_cli.specs.declared.explain_options.ExplainOptions.{ExplainOptions}
use Rattle.aud_cli.specs.declared.explain_options.NamedRecord.{NamedRecord}
use Rattle.aud_tap.specs.declared.taps.Tap.{Tap}
use Rattle.aud_cli.specs.declared.output_form.OutputForm.{OutputForm}
use Rattle.aud_cli.specs.declared.output_form.OutputForm.TheVariants as asked
use Rattle.aud_explain_app.specs.declared.written.Form.{Form}
use Rattle.aud_explain_app.specs.declared.written.Form.TheVariants.{Text as InText, Json}
use Rattle.aud_input.specs.TapLines.{TapLines}
use Rattle.aud_maker.specs.Sessions.{sessions_of}
use Rattle.aud_session_facts.specs.declared.asked.Recovery.{Recovery}
use Rattle.aud_session_facts.specs.Recoveries.{is_granted, is_refused, recoveries_of}
use Rattle.aud_verdict.specs.declared.verdict.SessionVerdict.{SessionVerdict}
use Rattle.aud_explain_app.specs.declared.output.Told.{Told}
use Rattle.aud_verdict.specs.YesOf.{is_yes}
use Rattle.aud_explain_app.specs.declared.summary.causes.CausesTold.{CausesTold}
use Rattle.aud_explain_app.specs.declared.summary.Summary.{Summary}
use Rattle.aud_explain_app.specs.Summary.Counts.{classes_of, faults_of, faults_seen, has_tail, is_no, is_unobserved, says_nothing, tail_of}
use Rattle.aud_explain_app.specs.Summary.Json.{summary_json}
use Rattle.aud_explain_app.specs.Summary.Text.{summary_text}
use Rattle.aud_verdict.specs.Verdicts.{AreVerdicts}
use Rattle.aud_explain_app.specs.RefusedLine.{refused_output}
use Rattle.aud_explain_app.specs.Page.{IsPage}
use Rattle.aud_explain_app.specs.Alike.{tellings}
use Rattle.aud_explain_app.specs.Chosen.{pids_left_out, sessions_chosen}
use Rattle.aud_explain_app.specs.Status.{status_by}
use Rattle.aud_explain_app.specs.declared.fault.ExplainFault.{ExplainFault}
use Rattle.aud_explain_app.specs.declared.fault.ExplainFault.TheVariants.{NoRecord, OtherPart, Unexplained, Write}
use Rattle.aud_explain_app.specs.declared.fault.Unexplained.{Unexplained as Why}
use Rattle.aud_explain_app.specs.declared.fault.Unexplained.TheVariants.{NoSession}
use Rattle.aud_explain_app.specs.declared.output.Figures.{Figures}
use Rattle.aud_explain_app.specs.Missing.{first_missing, pids_known}
use Rattle.aud_explain_app.specs.Records.{first_lacking, records_output}
use Rattle.aud_explain_app.specs.Strangers.{AreAdded, asked_in_vain}
use Rattle.aud_explain_app.specs.Texts.{AddTexts}

-- the form of the explanations, where the words ask for this one: a page holds JSON
abbrev pub form_of : OutputForm → Form
form_of asked.Text = InText
form_of asked.Json = Json
form_of asked.Html = Json

-- the summary's lines, or its line of JSON, with what was told of causes
abbrev pub summary_in : Form → Summary → List CausesTold → List ℕ
summary_in InText summary causes = summary_text summary causes
summary_in Json summary causes = summary_json summary causes ++ codes "\n"

-- the figures are those of the recording, of these verdicts on its sessions and of these recoveries, in files of this
-- size
pub record IsSummary (c : Cluster) (verdicts : List SessionVerdict) (recoveries : List Recovery) (size : Size) (s : Summary) : Type 0 where
  pub sessions : s.sessions ≡ length verdicts
  pub yes : s.yes ≡ count_by is_yes verdicts
  pub no : s.no ≡ count_by is_no verdicts
  pub unobserved : s.unobserved ≡ count_by (is_unobserved c) verdicts
  pub classes : s.classes ≡ classes_of verdicts
  pub faults : faults_seen s.faults ≡ faults_of verdicts
  pub tails : s.tails.sessions ≡ count_by has_tail verdicts
  pub tail_events : s.tails.events ≡ min (sum_by tail_of verdicts) (2 ^ 64 - 1)
  pub asked : s.recoveries.asked ≡ length recoveries
  pub granted : s.recoveries.granted ≡ length (filter is_granted recoveries)
  pub refused : s.recoveries.refused ≡ length (filter is_refused recoveries)
  pub entries : s.entries.all ≡ length c.stream
  pub recoverable : s.entries.recoverable ≡ count_by is_recoverable c.stream
  pub lines : s.input.lines ≡ size.lines
  pub bytes : s.input.bytes ≡ size.bytes

-- the same figures with this time
abbrev pub timed : Summary → ℕ → Summary
timed s seconds = record s { input = record s.input { seconds = seconds } }

-- the figures of the recording, and the status by the verdicts and the recoveries
pub record AreFigures (options : ExplainOptions) (c : Cluster) (size : Size) (verdicts : List SessionVerdict) (figures : Figures) : Type 0 where
  pub is_summary : IsSummary c verdicts (recoveries_of c) size figures.summary
  pub status_is : figures.status ≡ status_by options.fail_on (says_nothing figures.summary) verdicts (recoveries_of c)

-- pids that are borrowed
abbrev pub pids_in : List (Bor (List ℕ)) → List Text
pids_in pids = map (λ pid. pid.now) pids

-- the output over a recording, where these are the lines of its records, in these files: the explanation of each session
-- that is shown, by its verdict, with the whole where that is asked for, those with the same fault at the same record once,
-- and the figures of all of it; sessions that clients asked for in vain and that no record names are shown too, and not
-- counted; and each pid of the words is that of one of all these, and left out where it isn't within what --only says. What the
-- explanations told of causes is counted too
pub record IsExplaining (options : ExplainOptions) (c : Cluster) (lines : List TapLines) (files : List InputFile) (size : Size) (told : Told) : Type 0 where
  pub verdicts : List SessionVerdict
  pub are_verdicts : AreVerdicts c options.whole (sessions_of c) verdicts
  pub sessions : List SessionVerdict
  pub are_sessions : AreAdded c options.whole (asked_in_vain c (recoveries_of c)) verdicts sessions
  pub none_missing : first_missing (pids_known c) options.pids ≡ None
  pub texts : List ℕ
  pub causes : List CausesTold
  pub are_texts : AddTexts c lines (form_of options.form) files (tellings c options.pids (sessions_chosen c options.only options.pids sessions)) [] texts [] causes
  pub figures : Figures
  pub are_figures : AreFigures options c size verdicts figures
  pub seconds : ℕ
  pub text_is : told.output.text ≡ texts ++ summary_in (form_of options.form) (timed figures.summary seconds) causes
  pub status_is : told.output.status ≡ figures.status
  pub left_out_are : pids_in told.left_out.items ≡ pids_left_out c options.only sessions options.pids

-- the output is that of these records
abbrev pub IsShowing : List NamedRecord → Form → List Tap → List TapLines → List InputFile → Told → Type 0
IsShowing named form taps lines files told = (records_output form files taps lines named ≡ Some told.output) × (pids_in told.left_out.items ≡ [])

-- the output over taps, where these are the lines of their records, in these files: the records that are named, or, where
-- none is, the sessions explained
abbrev pub IsAnswer : List NamedRecord → ExplainOptions → List Tap → List TapLines → List InputFile → Size → Told → Type 0
IsAnswer [] options taps lines files size told = IsExplaining options (cluster_of taps) lines files size told
IsAnswer (named ∷ more) options taps lines files size told = IsShowing (named ∷ more) (form_of options.form) taps lines files told

-- where the lines of a part are to be named as those of the input, the part has this size
abbrev pub IsOf : Option PartLines → Size → Type 0
IsOf None size = Unit {0}
IsOf (Some part) size = part.size ≡ size

-- the lines of the records; where they are those of a part, named as those of the input
abbrev pub lines_told : Option PartLines → List TapLines → List TapLines
lines_told None lines = lines
lines_told (Some part) lines = taps_named part.runs lines

-- the files in which these lines stand: those of the words, by how many lines each has; or, where the lines are those of
-- the input that a part is of, the files of that
abbrev pub files_told : Option PartLines → List Text → List ℕ → List InputFile
files_told None names counts = input_files names counts
files_told (Some part) names counts = part.files

-- what is told of files, by what their readers have left: their recording explained, or the records of it that are named
-- shown, or their first refused line told.
-- Where they are a part, the lines of records are named as those of the input, and a refused line as that of the part
abbrev pub IsTold : ExplainOptions → Option PartLines → List (Option (List ℕ)) → Told → Type 0
IsTold options part lefts told =
    ((read : Recorded) × AreRecorded lefts read × IsOf part read.size × IsAnswer options.records options read.taps (lines_told part read.lines)
    (files_told part options.files read.counts.items) read.size told)
    ⊎ ((refusal : Refusal) × IsRefused lefts refusal × (told.output ≡ refused_output (form_of options.form) options.files refusal) × (pids_in told.left_out.items ≡ []))

-- what is told is written as it is, or in a page that holds it
abbrev pub IsIn : OutputForm → List ℕ → List ℕ → Type 0
IsIn asked.Text told text = text ≡ told
IsIn asked.Json told text = text ≡ told
IsIn asked.Html told text = IsPage told text

-- the output over files: what is told of them, in the form that the words ask for
pub record IsExplanation (options : ExplainOptions) (part : Option PartLines) (lefts : List (Option (List ℕ))) (explained : Told) : Type 0 where
  pub told : Told
  pub is_told : IsTold options part lefts told
  pub is_in : IsIn options.form told.output.text explained.output.text
  pub status_is : explained.output.status ≡ told.output.status
  pub left_out_are : explained.left_out ≡ told.left_out

-- the files are recorded, and of the pids of the words the one with this number is the first that no session there has
abbrev pub IsFirstMissing : ExplainOptions → List (Option (List ℕ)) → ℕ → Type 0
IsFirstMissing options lefts number = (read : Recorded) × AreRecorded lefts read × (first_missing (pids_known (cluster_of read.taps)) options.pids ≡ Some number)

-- the files are recorded, and of the records of the words the one with this number is the first that isn't there
abbrev pub IsFirstLacking : ExplainOptions → List (Option (List ℕ)) → ℕ → Type 0
IsFirstLacking options lefts number = (read : Recorded) × AreRecorded lefts read × (first_lacking read.taps options.records ≡ Some number)

-- the part has another size
abbrev pub IsOther : Option PartLines → Size → Type 0
IsOther None size = ⊥
IsOther (Some part) size = ¬ (part.size ≡ size)

-- the files are recorded, and have another size than the part whose lines are to be named
abbrev pub AreOther : Option PartLines → List (Option (List ℕ)) → Type 0
AreOther part lefts = (read : Recorded) × AreRecorded lefts read × IsOther part read.size

-- why sessions are not explained: no session has this pid of the words, and each before it has one
abbrev pub IsUnexplained : ExplainOptions → List Tap → Why → Type 0
IsUnexplained options taps (NoSession number) = first_missing (pids_known (cluster_of taps)) options.pids ≡ Some number
IsUnexplained options taps why = Unit {0}

-- why nothing is told of what was read, which is this part or a whole
abbrev pub IsUntold : ExplainOptions → Option PartLines → Recorded → ExplainFault → Type 0
IsUntold options part read (Unexplained why) = IsUnexplained options read.taps why
IsUntold options part read (NoRecord number) = first_lacking read.taps options.records ≡ Some number
IsUntold options part read OtherPart = IsOther part read.size
IsUntold options part read Write = ⊥

-- why nothing is told of files: the first pid of no session, the first record that isn't there, or a part of another size
abbrev pub AreUntold : ExplainOptions → Option PartLines → List (Option (List ℕ)) → ExplainFault → Type 0
AreUntold options part lefts (Unexplained (NoSession number)) = IsFirstMissing options lefts number
AreUntold options part lefts (Unexplained why) = Unit {0}
AreUntold options part lefts (NoRecord number) = IsFirstLacking options lefts number
AreUntold options part lefts OtherPart = AreOther part lefts
AreUntold options part lefts Write = ⊥
