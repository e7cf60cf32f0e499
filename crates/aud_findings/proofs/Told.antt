-- What the tap at a place tells.
use Rattle.std.proofs.Common.{◌≡◌, ℕ, List, [], Option, Some, None, option_map, refl, sym, ap}
use Rattle.std.proofs.lemmas.Option.{none-some, same_Some}
use Rattle.aud_tap.specs.declared.records.StreamRec.{StreamRec}
use Rattle.aud_tap.specs.declared.records.ClientRec.{ClientRec}
use Rattle.aud_node.specs.Cluster.{Cluster}
use Rattle.std.specs.Option.{option_and_then}
use Rattle.aud_node.specs.NodeTaps.{client_at}
use Rattle.aud_client.specs.TapPackets.{tap_packets}
use Rattle.aud_client.specs.Received.{TranscriptSeen, transcript_at, transcript_of}
use Rattle.aud_rows.specs.StayRows.{stays_at, stays_in}
use Rattle.aud_findings.specs.ShowsFrame.{bad_number}

some_in : (stream : List StreamRec) (o : Option (List ClientRec)) (t : TranscriptSeen) → option_map (transcript_of stream) o ≡ Some t → stays_in stream o ≡ t.stays
some_in stream None t e = absurd (none-some _ e)
some_in stream (Some recs) t e = ap (λ (u : TranscriptSeen). u.stays) (same_Some _ _ e)

none_in : (stream : List StreamRec) (o : Option (List ClientRec)) → option_map (transcript_of stream) o ≡ None → stays_in stream o ≡ []
none_in stream None e = refl
none_in stream (Some recs) e = absurd (none-some _ (sym e))

-- where a client's tap is there, it tells its stays
pub told_some : (c : Cluster) (place : ℕ) (t : TranscriptSeen) → transcript_at c place ≡ Some t → stays_at c place ≡ t.stays
told_some c place t e = some_in c.stream (client_at c place) t e

-- else there are none
pub told_none : (c : Cluster) (place : ℕ) → transcript_at c place ≡ None → stays_at c place ≡ []
told_none c place e = none_in c.stream (client_at c place) e

bad_in_some : (stream : List StreamRec) (o : Option (List ClientRec)) (t : TranscriptSeen) → option_map (transcript_of stream) o ≡ Some t → option_and_then (λ (recs : List ClientRec). (tap_packets recs).bad) o ≡ t.bad
bad_in_some stream None t e = absurd (none-some _ e)
bad_in_some stream (Some recs) t e = ap (λ (u : TranscriptSeen). u.bad) (same_Some _ _ e)

bad_in_none : (stream : List StreamRec) (o : Option (List ClientRec)) → option_map (transcript_of stream) o ≡ None → option_and_then (λ (recs : List ClientRec). (tap_packets recs).bad) o ≡ None
bad_in_none stream None e = refl
bad_in_none stream (Some recs) e = absurd (none-some _ (sym e))

-- where a client's tap is there, it tells its first record that is no packet
pub bad_some : (c : Cluster) (place : ℕ) (t : TranscriptSeen) → transcript_at c place ≡ Some t → bad_number c place ≡ t.bad
bad_some c place t e = bad_in_some c.stream (client_at c place) t e

-- else there is none
pub bad_none : (c : Cluster) (place : ℕ) → transcript_at c place ≡ None → bad_number c place ≡ None
bad_none c place e = bad_in_none c.stream (client_at c place) e
