-- What is kept of the clients' taps.
use Rattle.std.specs.Prelude.{◌≡◌, ℕ, Bool, false, List, length, map, Option, Some, None, slice_get, option_map}
use Rattle.std.specs.List.{filter, list_any}
use Rattle.std.specs.Option.{option_and_then}
use Rattle.aud_tap.specs.Names.{AreNamedOnce}
use Rattle.aud_tap.specs.declared.taps.Tap.{Tap}
use Rattle.aud_tap.specs.declared.records.StreamRec.{StreamRec}
use Rattle.aud_node.specs.Cluster.{Cluster}
use Rattle.aud_base.specs.Lists.{numbers_from}
use Rattle.aud_base.specs.Places.{places_of}
use Rattle.aud_node.specs.NodeTaps.{client_recs}
use Rattle.aud_node.specs.Stream.{Text}
use Rattle.aud_client.specs.Received.{TranscriptSeen, transcript_of, stay_names_pid}
use Rattle.aud_client.specs.Replies.{naming_places}
use Rattle.aud_client.specs.declared.clients.Clients.{Clients}
use Rattle.aud_client.specs.declared.recording.Recording.TheInside.{Inside}

-- what the tap tells, if it is a client's
abbrev pub transcript_in : List StreamRec → Tap → Option TranscriptSeen
transcript_in stream tap = option_map (transcript_of stream) (client_recs tap)

-- there is a client's tap, and it tells of a stay whose reply names the pid
abbrev pub has_naming_stay : Text → Option TranscriptSeen → Bool
has_naming_stay pid None = false
has_naming_stay pid (Some transcript) = list_any (stay_names_pid pid) transcript.stays

-- the places, ascending, of those that tell of a stay whose reply names the pid
abbrev pub naming_transcripts : List (Option TranscriptSeen) → Text → List ℕ
naming_transcripts transcripts pid = filter (λ place. has_naming_stay pid (option_and_then (λ transcript. transcript) (slice_get transcripts place))) (numbers_from 0 (length transcripts))

-- the clients' taps are read, and of each pid the places are those that name it
pub record AreRead (c : Cluster) (clients : Clients) : Type 0 where
  pub transcripts_are : clients.transcripts.items ≡ map (transcript_in c.stream) c.taps
  pub naming_are : (pid : Text) → places_of clients.naming pid ≡ naming_places c.taps pid

-- the clients' taps are read; no two taps have one name
pub record HoldsRecording (r : Inside) : Type 0 where
  pub clients_are : AreRead r.logs r.clients
  pub named_once : AreNamedOnce r.logs.taps
