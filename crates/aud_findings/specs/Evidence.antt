-- What the rows that are found of a session show, by the verdict on it.
use Rattle.std.specs.Prelude.{◌≡◌, ◌⊎◌, ℕ, Bool, true, false, List, [], length, None}
use Rattle.aud_node.specs.Lists.{first_index}
use Rattle.aud_node.specs.Cluster.{Cluster}
use Rattle.aud_node.specs.Stream.{Text}
use Rattle.aud_client.specs.Received.{is_orphan}
use Rattle.aud_client.specs.Replies.{naming_places}
use Rattle.aud_client.specs.StaySeen.{StaySeen}
use Rattle.aud_rooms.specs.Turns.{HasNoTurn}
use Rattle.aud_cert.specs.declared.fault.Fault.{Fault}
use Rattle.aud_cert.specs.declared.fault.Fault.TheVariants.{NoLog, Chain, Order, Client, Names, Frame, Orphan, Tail}
use Rattle.aud_session_facts.specs.Misfit.{HasChain}
use Rattle.aud_input.specs.TapLines.{TapLines}
use Rattle.aud_verdict.specs.declared.verdict.Verdict.{Verdict}
use Rattle.aud_verdict.specs.declared.verdict.Verdict.TheVariants.{Yes, No}
use Rattle.aud_rows.specs.Seen.{RowSeen}
use Rattle.aud_rows.specs.StayRows.{stays_at}
use Rattle.aud_verdict.specs.Session.{SessionLogs, IsSession, own_stays, due_to}
use Rattle.aud_findings.specs.ShowsChain.{ShowsChain}
use Rattle.aud_findings.specs.ShowsFrame.{ShowsFrame, bad_number}
use Rattle.aud_findings.specs.ShowsNames.{ShowsNames, AreNamedAlike}
use Rattle.aud_findings.specs.ShowsOrder.{ShowsOrder, AreOrdered}
use Rattle.aud_findings.specs.ShowsOrphan.{ShowsOrphan}
use Rattle.aud_findings.specs.ShowsFound.{IsFoundOtherwise, ShowsFound}
use Rattle.aud_findings.specs.Tail.{ShowsTail}
use Rattle.aud_findings.specs.Unplaced.{ShowsClient, ShowsNoLog}

-- the rows show something, or there is nothing to show, and there are none
abbrev pub ShowsOr : (List RowSeen → Type 0) → Type 0 → List RowSeen → Type 0
ShowsOr Shows nothing rows = Shows rows ⊎ (nothing × (rows ≡ []))

-- ---- a fault of what the client's tap tells of the session

-- the rows show it, where the client's tap is that at this place: a reply that names the session otherwise than its
-- `open`, a record that is no packet, an event of which nobody knows the session, what was found wrong with what was
-- received, and the tail
abbrev pub ShowsTold : Cluster → List TapLines → Text → ℕ → Fault → List RowSeen → Type 0
ShowsTold c lines pid place Names rows = ShowsNames c lines pid place rows
ShowsTold c lines pid place Frame rows = ShowsFrame c lines place rows
ShowsTold c lines pid place Orphan rows = ShowsOrphan c lines place rows
ShowsTold c lines pid place (Tail count) rows = ShowsTail c lines pid rows
ShowsTold c lines pid place fault rows = ShowsFound c lines pid fault rows

-- the tap tells of no such fault, where these are the session's stays there, and these positions were due; of a tail
-- there is always something to show, if only no rows
abbrev pub TellsNone : Cluster → Text → ℕ → List StaySeen → List ℕ → Fault → Type 0
TellsNone c pid place stays due Names = AreNamedAlike c pid place
TellsNone c pid place stays due Frame = bad_number c place ≡ None
TellsNone c pid place stays due Orphan = first_index is_orphan (stays_at c place) ≡ None
TellsNone c pid place stays due (Tail count) = ⊥
TellsNone c pid place stays due fault = IsFoundOtherwise c place stays due fault

-- so it is of the client of the session with this pid
pub record IsOfSession (c : Cluster) (lines : List TapLines) (pid : Text) (fault : Fault) (rows : List RowSeen) : Type 0 where
  pub session : SessionLogs
  pub is_session : IsSession c pid session
  pub is_shown : ShowsOr (ShowsTold c lines pid session.client fault)
      (TellsNone c pid session.client (own_stays c session) (due_to c session) fault) rows

-- ---- all faults

-- the same where the session's turns and its client are known; where they aren't there are no rows
abbrev pub IsOfClient : Cluster → List TapLines → Text → Bool → Fault → List RowSeen → Type 0
IsOfClient c lines pid true fault rows = IsOfSession c lines pid fault rows
IsOfClient c lines pid false fault rows = rows ≡ []

-- the rows that are found for the fault
abbrev pub IsFaultShown : Cluster → List TapLines → Text → Bool → Fault → List RowSeen → Type 0
IsFaultShown c lines pid known NoLog rows = HasNoTurn c pid 0 → ShowsNoLog c lines pid rows
IsFaultShown c lines pid known Chain rows = ShowsOr (ShowsChain c lines pid) (HasChain c pid) rows
IsFaultShown c lines pid known Order rows = ShowsOr (ShowsOrder c lines pid) (AreOrdered c pid) rows
IsFaultShown c lines pid known Client rows = (length (naming_places c.taps pid) ≡ 1 → ⊥) → ShowsClient c lines pid rows
IsFaultShown c lines pid known fault rows = IsOfClient c lines pid known fault rows

-- and for the verdict: none for a yes
abbrev pub IsEvidence : Cluster → List TapLines → Text → Bool → Verdict → List RowSeen → Type 0
IsEvidence c lines pid known (Yes got tail turns) rows = rows ≡ []
IsEvidence c lines pid known (No fault) rows = IsFaultShown c lines pid known fault rows
