-- What the logs of a bundle keep to: names of taps, and how many records there are.
use Rattle.std.proofs.Common.{◌≡◌, ◌<◌, ◌≤◌, ◌^◌, ℕ, List, [], ◌∷◌, length, Option, Some, None, option_map, slice_get, refl, subst, arith, All}
use Rattle.std.proofs.lemmas.Option.{slice_get_within, get_or_from_slice_get}
use Rattle.std.proofs.lemmas.List.Elements.{All-head, All-tail}
use Rattle.aud_tap.specs.declared.records.Version.{Version}
use Rattle.aud_tap.specs.declared.records.StreamRec.{StreamRec}
use Rattle.aud_tap.specs.declared.taps.Records.{Records}
use Rattle.aud_tap.specs.declared.taps.Records.TheVariants.{Stream, Node, Client}
use Rattle.aud_tap.specs.declared.taps.Tap.{Tap}
use Rattle.aud_node.specs.Names.{AreNamedOnce}
use Rattle.aud_node.specs.Cluster.{stream_of, entries_or, cluster_of, node_log, node_recs}
use Rattle.aud_reader.specs.Bundle.{max_entries, max_records}
use Rattle.aud_reader.proofs.TapLaws.{first_with_name}
use Rattle.aud_writer.specs.OfABundle.{AreRecords, AreOfABundle}

-- the records of a tap are of its version
abbrev AreIts : Tap → Type 0
AreIts tap = AreRecords tap.version tap.records

-- a stream has not more entries than may be, if its tap is the first of the stream
entries-few : (version : Version) (records : Records) (others : List StreamRec) → AreRecords version records → length others ≤ max_entries → length (entries_or others records) ≤ max_entries
entries-few version (Stream entries) others are few = are.few
entries-few version (Node records) others are few = few
entries-few version (Client records) others are few = few

-- nor has the stream of all taps
stream-few : (taps : List Tap) → All AreIts taps → length (stream_of taps) ≤ max_entries
stream-few [] are = omega arith
stream-few (tap ∷ taps) are =
    entries-few tap.version tap.records (stream_of taps) (All-head AreIts tap taps are) (stream-few taps (All-tail AreIts tap taps are))

-- a node has not more records than may be
records-few : (version : Version) (records : Records) → AreRecords version records → length (node_recs (Some records)) ≤ max_records
records-few version (Stream entries) are = omega arith
records-few version (Node records) are = are.few
records-few version (Client records) are = omega arith

module _ (taps : List Tap) (are : AreOfABundle taps) where
  -- each tap is the first with its name
  pub named-once : AreNamedOnce taps
  named-once = first_with_name taps are.names

  -- the entries of the stream are counted in 64 bits
  pub few-entries : length (cluster_of taps).stream < 2 ^ 64
  few-entries = let few : length (stream_of taps) ≤ max_entries = stream-few taps are.records in omega arith

  -- and so are the records of each node
  pub few-records : (place : ℕ) → length (node_log (cluster_of taps) place) < 2 ^ 64
  few-records place = go (slice_get taps place) refl
    where
      go : (o : Option Tap) → slice_get taps place ≡ o → length (node_recs (option_map (λ (tap : Tap). tap.records) o)) < 2 ^ 64
      go None at = omega arith
      go (Some tap) at =
          let its : AreIts tap = subst AreIts (get_or_from_slice_get taps place tap tap at) (are.records place tap (slice_get_within taps place tap at)) in
          let few : length (node_recs (Some tap.records)) ≤ max_records = records-few tap.version tap.records its in
          omega arith
