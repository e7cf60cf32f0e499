-- That the record at which a fault shows is among the rows that are written of it.
use Rattle.std.specs.Prelude.{◌≡◌, ℕ, Bool, true, false, List, [], Some, is_some, map, slice_get}
use Rattle.std.specs.List.{list_any}
use Rattle.aud_tap.specs.declared.records.Rec.{Rec}
use Rattle.aud_tap.specs.declared.taps.Tap.{Tap}
use Rattle.aud_reader.specs.OwnLines.{recs_in}
use Rattle.aud_node.specs.Cluster.{Cluster}
use Rattle.aud_node.specs.Stream.{Text}
use Rattle.aud_cert.specs.declared.fault.Fault.{Fault}
use Rattle.aud_cert.specs.declared.fault.Fault.TheVariants.{NoLog, Client, Tail}
use Rattle.aud_input.specs.TapLines.{TapLines, kept_line}
use Rattle.aud_rows.specs.Seen.{RowSeen, row_seen}
use Rattle.aud_session_facts.specs.declared.asked.Recovery.{Recovery}
use Rattle.aud_verdict.specs.declared.verdict.Verdict.TheVariants.{No}
use Rattle.aud_verdict.specs.Session.{SessionLogs, IsSession, received_by}
use Rattle.aud_verdict.specs.Verdict.{IsVerdict}
use Rattle.aud_explanation.specs.LongRows.{is_fault, rows_shown}
use Rattle.aud_explain_app.specs.declared.explained.Explained.{Explained}
use Rattle.aud_explain_app.specs.Explained.{IsExplained}

-- ---- the lines of records

-- a line is kept for each record of each tap
abbrev pub KnowsEachRecord : List Tap → List TapLines → Type 0
KnowsEachRecord taps lines = (place number : ℕ) (tap : Tap) (rec : Rec) → slice_get taps place ≡ Some tap → slice_get (recs_in tap.records) number ≡ Some rec
    → is_some (kept_line lines place number) ≡ true

-- ---- the rows

-- one of the rows is that of the record at which the fault shows, which is marked by `<-`
abbrev pub has_fault_row : List RowSeen → Bool
has_fault_row rows = list_any (λ (row : RowSeen). is_fault row.role) rows

-- the fault shows at a record; that no node opened the session, that it hasn't one client, and that the last of what was
-- due never came show at none
abbrev pub shows_at_record : Fault → Bool
shows_at_record NoLog = false
shows_at_record Client = false
shows_at_record (Tail count) = false
shows_at_record _ = true

-- these rows are written of the session with this pid, of which this fault is the verdict, with or without `--whole`,
-- where a line is kept for each record
pub record AreWrittenOf (c : Cluster) (lines : List TapLines) (whole : Bool) (pid : Text) (fault : Fault) (rows : List RowSeen) : Type 0 where
  pub known : KnowsEachRecord c.taps lines
  pub verdict : IsVerdict c whole pid (No fault)
  pub refused : List Recovery
  pub told : Explained
  pub is_told : IsExplained c lines pid (No fault) refused told
  pub are : rows ≡ map row_seen (rows_shown told.outcome.evidence.items)

-- the session's client received an event of it
pub record HasReceived (c : Cluster) (pid : Text) : Type 0 where
  pub session : SessionLogs
  pub is_session : IsSession c pid session
  pub some : received_by c session ≡ [] → ⊥
