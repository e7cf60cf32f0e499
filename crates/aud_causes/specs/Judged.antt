-- What a fault may come from of a session that has a certificate.
use Rattle.std.specs.Prelude.{ℕ, List, [], ◌∷◌, Option, Some}
use Rattle.aud_cert.specs.declared.fault.Fault.{Fault}
use Rattle.aud_cert.specs.declared.fault.Fault.TheVariants as fault
use Rattle.aud_check.specs.declared.finding.Finding.{Finding}
use Rattle.aud_check.specs.declared.finding.Finding.TheVariants.{Content, Delivery, Window}
use Rattle.aud_session_facts.specs.Account.{found_for}
use Rattle.aud_causes.specs.declared.cause.Cause.{Cause}
use Rattle.aud_causes.specs.declared.cause.Cause.TheVariants.{NotAPacket}
use Rattle.aud_causes.specs.Differences.{Case, difference_causes}
use Rattle.aud_causes.specs.Contents.{content_causes}
use Rattle.aud_causes.specs.Windows.{window_causes}
use Rattle.aud_causes.specs.NoPacket.{no_packet_in}
use Rattle.aud_causes.specs.Names.{names_causes}
use Rattle.aud_causes.specs.Orphans.{orphan_at}

-- the causes of what was found: of an event that isn't its entry, of where what was received parts from what was due, and
-- of a recovery that was asked for where it doesn't fit
abbrev pub causes_found : Case → Option Finding → List Cause
causes_found s (Some (Content altered)) = content_causes s.c s.client s.numbers altered
causes_found s (Some (Delivery difference)) = difference_causes s difference
causes_found s (Some (Window window)) = window_causes s.c s.stays s.due window
causes_found s _ = []

-- the causes of a fault of this session, whose client's tap is at this place and has its first events of which nobody
-- knows the session in the stay with this number, if it has any; of what was found, where the fault is such a one
abbrev pub judged_causes : Case → ℕ → Option ℕ → Fault → Option Finding → List Cause
judged_causes s client orphan fault.Names found = names_causes s.seen s.stays
judged_causes s client orphan fault.Frame found = NotAPacket (no_packet_in s.c client) ∷ []
judged_causes s client orphan fault.Orphan found = orphan_at s.c client orphan
judged_causes s client orphan fault found = causes_found s (found_for fault found)
