-- What the tap of a session's client tells, by the tap's place.
use Rattle.std.proofs.Common.{◌≡◌, List, refl, Option, Some, None}
use Rattle.std.specs.Option.{option_and_then}
use Rattle.aud_tap.specs.declared.records.StreamRec.{StreamRec}
use Rattle.aud_tap.specs.declared.records.ClientRec.{ClientRec}
use Rattle.aud_node.specs.Cluster.{Cluster}
use Rattle.aud_node.specs.NodeTaps.{client_at}
use Rattle.aud_client.specs.Received.{tap_stays}
use Rattle.aud_client.specs.TapPackets.{tap_packets}
use Rattle.aud_check.specs.Shown.{recs_or_none}
use Rattle.aud_rows.specs.StayRows.{stays_at, stays_in}
use Rattle.aud_verdict.specs.Session.{SessionLogs, transcript}
use Rattle.aud_findings.specs.ShowsFrame.{bad_number}

stays_told : (stream : List StreamRec) (o : Option (List ClientRec)) → tap_stays stream (recs_or_none o) ≡ stays_in stream o
stays_told stream None = refl
stays_told stream (Some recs) = refl

-- the stays of its client's tap are those at the tap's place
pub told_at : (c : Cluster) (s : SessionLogs) → (transcript c s).stays ≡ stays_at c s.client
told_at c s = stays_told c.stream (client_at c s.client)

bad_told : (o : Option (List ClientRec)) → (tap_packets (recs_or_none o)).bad ≡ option_and_then (λ (recs : List ClientRec). (tap_packets recs).bad) o
bad_told None = refl
bad_told (Some recs) = refl

-- and so is the first record that is no packet
pub bad_at_client : (c : Cluster) (s : SessionLogs) → (transcript c s).bad ≡ bad_number c s.client
bad_at_client c s = bad_told (client_at c s.client)
