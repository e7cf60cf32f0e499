-- What is known of a session by its account.
use Rattle.std.specs.Prelude.{◌≡◌, ◌<◌, ◌++◌, ℕ, List, [], map, Option, Some, None}
use Rattle.std.specs.Global.{Vec}
use Rattle.aud_node.specs.Cluster.{Cluster}
use Rattle.aud_node.specs.Names.{AreNamedOnce}
use Rattle.aud_node.specs.Stream.{Text}
use Rattle.aud_client.specs.StaySeen.{StaySeen}
use Rattle.aud_cert.specs.Certificate.{CertificateSeen}
use Rattle.aud_check.specs.declared.difference.Difference.{Difference}
use Rattle.aud_check.specs.declared.finding.Finding.{Finding}
use Rattle.aud_check.specs.declared.finding.Finding.TheVariants.{Content, Delivery, Window}
use Rattle.aud_maker.specs.Made.{IsMade}
use Rattle.aud_session_facts.specs.declared.account.Account.{Account}
use Rattle.aud_session_facts.specs.Account.{IsAccountOf}
use Rattle.aud_rows.specs.declared.row.Row.{Row}
use Rattle.aud_rows.specs.Seen.{RowSeen, row_seen}
use Rattle.aud_session_facts.specs.declared.shown.session.ShownSession.{ShownSession}
use Rattle.aud_session_facts.specs.ContentRows.{altered_rows}
use Rattle.aud_session_facts.specs.DifferenceRows.{difference_rows}
use Rattle.aud_session_facts.specs.SessionRows.{Session}
use Rattle.aud_session_facts.specs.ShowsDifference.{AreNumbersOf}
use Rattle.aud_session_facts.specs.WindowRows.{window_rows}
use Rattle.aud_findings.specs.BesideRows.{beside_rows}
use Rattle.aud_findings.specs.Received.{frame_of}

-- the session is that of such an account: its turns are those of the certificate, its client's tap is the account's, and
-- the stays with its numbers are those there whose reply names it
pub record IsShownBy (c : Cluster) (pid : Text) (a : Account) (s : ShownSession) : Type 0 where
  pub once : AreNamedOnce c.taps
  pub own : IsAccountOf c pid a
  pub client : s.tap.now.place ≡ a.client
  pub turns : s.turns.now ≡ a.cert.turns
  pub numbers : AreNumbersOf c pid a.client s.numbers.now

-- the rows of what was found, over the session, by the certificate that was made for it, and its stays
abbrev pub finding_rows : (s : Session) (cert : CertificateSeen) → IsMade s.c cert.pid cert → List StaySeen → Finding → List RowSeen
finding_rows s cert made stays (Content altered) = altered_rows s altered
finding_rows s cert made stays (Delivery difference) = beside_rows s.c s.lines cert made stays difference ++ difference_rows s difference
finding_rows s cert made stays (Window window) = window_rows s window
finding_rows s cert made stays _ = []

-- the rows that were found, as contracts see them; none where none were
abbrev pub found_rows : Option (Vec Row) → List RowSeen
found_rows None = []
found_rows (Some rows) = map row_seen rows.items

-- the difference shows at one of so many frames, if there is one
abbrev pub IsWithin : ℕ → Option Difference → Type 0
IsWithin count None = Unit {0}
IsWithin count (Some difference) = frame_of difference < count
