-- Of a fault of what was received of a session, the row of the record at which it shows is there.
use Rattle.std.proofs.Common.{◌≡◌, ℕ, Bool, true, List, inl, inr}
use Rattle.std.proofs.lemmas.Bool.{false≢true}
use Rattle.aud_node.specs.Cluster.{Cluster}
use Rattle.aud_node.specs.Stream.{Text}
use Rattle.aud_client.specs.StaySeen.{StaySeen}
use Rattle.aud_cert.specs.declared.fault.Fault.{Fault}
use Rattle.aud_cert.specs.declared.fault.Fault.TheVariants.{Content, Extra, Doubled, Swapped, Lost, Window, Tail}
use Rattle.aud_input.specs.TapLines.{TapLines}
use Rattle.aud_session_facts.specs.declared.account.Account.{Account}
use Rattle.aud_session_facts.specs.Account.{IsAccountOf, is_of_received}
use Rattle.aud_verdict.specs.Faults.{HoldsFirst}
use Rattle.aud_verdict.specs.Session.{due_to, own_stays}
use Rattle.aud_rows.specs.Seen.{RowSeen}
use Rattle.aud_findings.specs.Evidence.{IsOfSession, ShowsTold, TellsNone}
use Rattle.aud_findings.specs.ShowsFound.{IsFoundOtherwise, ShowsFound}
use Rattle.aud_laws.specs.FaultRows.{HasReceived, KnowsEachRecord, has_fault_row}
use Rattle.aud_laws.proofs.FaultRow.Content.{altered_marked}
use Rattle.aud_laws.proofs.FaultRow.Otherwise.{VerdictIsFound, not_otherwise}
use Rattle.aud_laws.proofs.FaultRow.Parting.{parting_marked}
use Rattle.aud_laws.proofs.FaultRow.Tail.{tail_marked}
use Rattle.aud_laws.proofs.FaultRow.Window.{window_marked}

module _ (c : Cluster) (lines : List TapLines) (known : KnowsEachRecord c.taps lines) (pid : Text) (rows : List RowSeen) where
  -- such a fault is shown by what was found
  told_found : (place : ℕ) (fault : Fault) → is_of_received fault ≡ true → ShowsTold c lines pid place fault rows → ShowsFound c lines pid fault rows
  told_found place (Content off) is shows = shows
  told_found place (Extra off) is shows = shows
  told_found place (Doubled off) is shows = shows
  told_found place (Swapped off) is shows = shows
  told_found place (Lost off) is shows = shows
  told_found place (Window conn) is shows = shows
  told_found place _ is shows = absurd (false≢true is)

  -- or something else was found
  told_otherwise : (place : ℕ) (stays : List StaySeen) (due : List ℕ) (fault : Fault) → is_of_received fault ≡ true → TellsNone c pid place stays due fault
      → IsFoundOtherwise c place stays due fault
  told_otherwise place stays due (Content off) is none = none
  told_otherwise place stays due (Extra off) is none = none
  told_otherwise place stays due (Doubled off) is none = none
  told_otherwise place stays due (Swapped off) is none = none
  told_otherwise place stays due (Lost off) is none = none
  told_otherwise place stays due (Window conn) is none = none
  told_otherwise place stays due _ is none = absurd (false≢true is)

  -- the row is among those of what was found
  found_marked : (fault : Fault) → ShowsFound c lines pid fault rows → has_fault_row rows ≡ true
  found_marked (Content off) shows = altered_marked c lines known pid rows shows
  found_marked (Extra off) shows = parting_marked c lines known pid rows shows
  found_marked (Doubled off) shows = parting_marked c lines known pid rows shows
  found_marked (Swapped off) shows = parting_marked c lines known pid rows shows
  found_marked (Lost off) shows = parting_marked c lines known pid rows shows
  found_marked (Window conn) shows = window_marked c lines known pid rows shows
  found_marked _ shows = absurd shows

-- among those of the session's fault
pub found_shown : (c : Cluster) (lines : List TapLines) → KnowsEachRecord c.taps lines → (whole : Bool) (pid : Text) (fault : Fault) (rows : List RowSeen)
    → HoldsFirst c whole pid fault → is_of_received fault ≡ true → (a : Account) → IsAccountOf c pid a → VerdictIsFound → IsOfSession c lines pid fault rows
    → has_fault_row rows ≡ true
found_shown c lines known whole pid fault rows first kind a of law told = elim told.is_shown [
  | inl shows ↦ found_marked c lines known pid rows fault (told_found c lines known pid rows told.session.client fault kind shows)
  | inr nothing ↦
      absurd (not_otherwise c whole pid fault first kind a of law told.session told.is_session
      (told_otherwise c lines known pid rows told.session.client (own_stays c told.session) (due_to c told.session) fault kind nothing.0))
]

-- and the last frame that was received, where any was, among those of a tail
pub tail_shown : (c : Cluster) (lines : List TapLines) → KnowsEachRecord c.taps lines → (whole : Bool) (pid : Text) (count : ℕ) (rows : List RowSeen)
    → HoldsFirst c whole pid (Tail count) → HasReceived c pid → IsOfSession c lines pid (Tail count) rows → has_fault_row rows ≡ true
tail_shown c lines known whole pid count rows first had told = elim told.is_shown [
  | inl shows ↦ tail_marked c lines known whole pid count first had rows shows
  | inr nothing ↦ absurd nothing.0
]
