-- What a client received of a session, and what was due to it.
use Rattle.std.specs.Prelude.{◌≡◌, ◌||◌, ℕ, Bool, true, false, List, map, Option, Some, None, MatchOption, if◌then◌else◌}
use Rattle.aud_tap.specs.declared.records.StreamRec.{StreamRec}
use Rattle.aud_node.specs.Stream.{Text}
use Rattle.aud_node.specs.Cluster.{Cluster}
use Rattle.aud_client.specs.StaySeen.{StaySeen}
use Rattle.aud_verdict.specs.Session.{SessionLogs, IsSession, own_stays, due_to}
use Rattle.aud_client.specs.Received.{transcript_of}
use Rattle.aud_node.specs.NodeTaps.{client_at}
use Rattle.aud_check.specs.declared.difference.Difference.{Difference}
use Rattle.aud_check.specs.declared.finding.Finding.{Finding}
use Rattle.aud_check.specs.declared.finding.Finding.TheVariants as finding
use Rattle.aud_cert.specs.declared.fault.Fault.{Fault}
use Rattle.aud_cert.specs.declared.fault.Fault.TheVariants.{Content, Extra, Doubled, Swapped, Lost, Window}
use Rattle.aud_maker.specs.Made.{IsMade}
use Rattle.aud_session_facts.specs.declared.account.Account.{Account}
use Rattle.aud_check.specs.Difference.{IsDifference}
use Rattle.aud_check.specs.Faults.{Case, IsReceived}
use Rattle.aud_check.specs.Findings.{IsFirstFinding, by_stays, fault_shown}
use Rattle.aud_check.specs.Shown.{recs_or_none}
use Rattle.aud_check.specs.Window.{positions_received}

-- the session's client is that of the tap at this place; there these are the stays whose reply names the session, in
-- the tap's order; and these positions were due to it by its turns, ascending
pub record IsAccount (c : Cluster) (pid : Text) (client : ℕ) (stays : List StaySeen) (due : List ℕ) : Type 0 where
  pub session : SessionLogs
  pub is_session : IsSession c pid session
  pub client_is : client ≡ session.client
  pub stays_are : stays ≡ own_stays c session
  pub due_is : due ≡ due_to c session

-- what the client received of the session first parts so from what was due to it
pub record IsDifferenceOf (c : Cluster) (pid : Text) (difference : Difference) : Type 0 where
  pub session : SessionLogs
  pub is_session : IsSession c pid session
  pub shown : IsDifference (positions_received (own_stays c session)) (due_to c session) difference

-- what these stays of the client's tap at the place received, against what was due
abbrev pub case_at : Cluster → ℕ → List StaySeen → List ℕ → Case
case_at c client stays due = by_stays c.stream (transcript_of c.stream (recs_or_none (client_at c client))) stays due

-- this is wrong first with what they received; or nothing is
abbrev pub IsFound : Cluster → ℕ → List StaySeen → List ℕ → Option Finding → Type 0
IsFound c client stays due found = MatchOption found (IsReceived (case_at c client stays due)) (IsFirstFinding (case_at c client stays due))

-- ---- an account

-- its stays
abbrev pub stays_of : Account → List StaySeen
stays_of a = map (λ stay. stay.now) a.stays.items

-- it is of the session with this pid: the certificate was made for that, the stays and the positions due are its, and
-- what is wrong first with what was received is found
pub record IsAccountOf (c : Cluster) (pid : Text) (a : Account) : Type 0 where
  pub made : IsMade c pid a.cert
  pub is : IsAccount c pid a.client (stays_of a) a.due.items
  pub found : IsFound c a.client (stays_of a) a.due.items a.found

-- ---- what was found for a fault

-- where what was received parts from what was due, if that was found
abbrev pub difference_found : Option Finding → Option Difference
difference_found (Some (finding.Delivery difference)) = Some difference
difference_found _ = None

abbrev pub is_content : Fault → Bool
is_content (Content off) = true
is_content _ = false

-- the fault is that what was received parts from what was due
abbrev pub is_parting : Fault → Bool
is_parting (Extra off) = true
is_parting (Doubled off) = true
is_parting (Swapped off) = true
is_parting (Lost off) = true
is_parting _ = false

abbrev pub is_window : Fault → Bool
is_window (Window c) = true
is_window _ = false

-- the fault is one of what was received of the session
abbrev pub is_of_received : Fault → Bool
is_of_received fault = is_content fault || is_parting fault || is_window fault

-- it is such a fault as the finding, which is one of what was received of the session
abbrev pub is_as : Finding → Fault → Bool
is_as finding.Frame fault = false
is_as finding.Orphan fault = false
is_as (finding.Content altered) fault = is_content fault
is_as (finding.Delivery difference) fault = is_parting fault
is_as (finding.Window window) fault = is_window fault

-- what was found, if the fault is such a one
abbrev pub found_for : Fault → Option Finding → Option Finding
found_for fault None = None
found_for fault (Some found) = if is_as found fault then Some found else None

-- what was found is such a fault, and this one
pub record IsFoundFor (stream : List StreamRec) (fault : Fault) (o : Option Finding) : Type 0 where
  pub found : Finding
  pub is : found_for fault o ≡ Some found
  pub names : fault ≡ fault_shown stream found
