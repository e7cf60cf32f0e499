-- When rows show what was found wrong first with what a client received of a session, and how that comes.
use Rattle.std.specs.Prelude.{◌≡◌, ◌++◌, ℕ, List, Option, None}
use Rattle.aud_node.specs.Cluster.{Cluster}
use Rattle.aud_node.specs.Stream.{Text}
use Rattle.aud_cert.specs.Certificate.{CertificateSeen}
use Rattle.aud_maker.specs.Made.{IsMade}
use Rattle.aud_client.specs.StaySeen.{StaySeen}
use Rattle.aud_cert.specs.declared.fault.Fault.{Fault}
use Rattle.aud_cert.specs.declared.fault.Fault.TheVariants.{Content, Extra, Doubled, Swapped, Lost, Window}
use Rattle.aud_session_facts.specs.Account.{IsDifferenceOf, IsFound, found_for}
use Rattle.aud_check.specs.declared.difference.Difference.{Difference}
use Rattle.aud_check.specs.declared.finding.Finding.{Finding}
use Rattle.aud_input.specs.TapLines.{TapLines}
use Rattle.aud_rows.specs.Seen.{RowSeen}
use Rattle.aud_session_facts.specs.ShowsAltered.{ShowsAltered}
use Rattle.aud_session_facts.specs.ShowsDifference.{ShowsDifference}
use Rattle.aud_session_facts.specs.ShowsWindow.{ShowsWindow}
use Rattle.aud_verdict.specs.Session.{SessionLogs, IsSession, own_stays}
use Rattle.aud_findings.specs.BesideRows.{beside_rows}

-- these are the rows of a difference between what was received of the session with this pid and what was due to it, and
-- in front of them those that tell how it comes to be one, by the session's certificate and its stays
pub record ShowsDelivery (c : Cluster) (lines : List TapLines) (pid : Text) (rows : List RowSeen) : Type 0 where
  pub cert : CertificateSeen
  pub made : IsMade c cert.pid cert
  pub names : cert.pid ≡ pid
  pub session : SessionLogs
  pub is_session : IsSession c pid session
  pub difference : Difference
  pub is_difference : IsDifferenceOf c pid difference
  pub shown : List RowSeen
  pub shows : ShowsDifference c lines pid shown
  pub are_its_rows : rows ≡ beside_rows c lines cert made (own_stays c session) difference ++ shown

-- the rows show it: an event that came with another content than its entry's, where what was received parts from what
-- was due, or a recovery that was asked for where it doesn't fit
abbrev pub ShowsFound : Cluster → List TapLines → Text → Fault → List RowSeen → Type 0
ShowsFound c lines pid (Content off) rows = ShowsAltered c lines pid rows
ShowsFound c lines pid (Extra off) rows = ShowsDelivery c lines pid rows
ShowsFound c lines pid (Doubled off) rows = ShowsDelivery c lines pid rows
ShowsFound c lines pid (Swapped off) rows = ShowsDelivery c lines pid rows
ShowsFound c lines pid (Lost off) rows = ShowsDelivery c lines pid rows
ShowsFound c lines pid (Window conn) rows = ShowsWindow c lines pid rows
ShowsFound c lines pid _ rows = ⊥

-- what is wrong first with what these stays received is no such fault, or nothing is
abbrev pub IsFoundOtherwise : Cluster → ℕ → List StaySeen → List ℕ → Fault → Type 0
IsFoundOtherwise c client stays due fault = (found : Option Finding) × IsFound c client stays due found × (found_for fault found ≡ None)
