-- Whether a frame of a stay isn't its entry, of all stays of a tap.
use Rattle.std.proofs.Common.{List, [], ◌∷◌, refl, flat_map, arith}
use Rattle.std.specs.List.{All}
use Rattle.std.proofs.lemmas.List.Elements.{All-append, All-filter, All-map}
use Rattle.aud_tap.specs.declared.records.StreamRec.{StreamRec}
use Rattle.aud_tap.specs.declared.records.ClientRec.{ClientRec}
use Rattle.aud_node.specs.Stream.{Text}
use Rattle.aud_client.specs.TapPackets.{Connection, tap_packets}
use Rattle.aud_client.specs.Stays.{stays}
use Rattle.aud_client.specs.StaySeen.{TellsAltered, stay_of}
use Rattle.aud_client.specs.Received.{connection_packets, stay_names_pid, stays_naming, stays_of, tap_stays, transcript_of}

module _ (stream : List StreamRec) where
  of_connections : (connections : List Connection) → All (TellsAltered stream) (flat_map (stays_of stream) connections)
  of_connections [] = λ k d lt. absurd (omega (arith, lt))
  of_connections (connection ∷ connections) =
      All-append (TellsAltered stream) (stays_of stream connection) (flat_map (stays_of stream) connections)
      (All-map (TellsAltered stream) (stay_of stream connection.c) (stays (connection_packets connection)) (λ k d lt. refl))
      (of_connections connections)

-- of all
pub tap_tells : (stream : List StreamRec) (recs : List ClientRec) → All (TellsAltered stream) (tap_stays stream recs)
tap_tells stream recs = of_connections stream (tap_packets recs).connections

-- of those that name a session
pub naming_tells : (stream : List StreamRec) (recs : List ClientRec) (pid : Text) → All (TellsAltered stream) (stays_naming pid (transcript_of stream recs).stays)
naming_tells stream recs pid = All-filter (stay_names_pid pid) (TellsAltered stream) (tap_stays stream recs) (tap_tells stream recs)
