-- What was read of a client's tap.
use Rattle.std.specs.Prelude.{◌≡◌, ℕ, suc, List, [], ◌∷◌, flat_map, Option}
use Rattle.aud_tap.specs.declared.records.ClientRec.{ClientRec}
use Rattle.aud_tap.specs.declared.records.ClientRec.TheVariants.{Conn}
use Rattle.aud_client.specs.TapPackets.{Connection, numbered_records, packets_in, bad_in, first_of, tap_packets}
use Rattle.aud_client.specs.Private.ConnectionRead.{inside}
use Rattle.aud_client.specs.Seen.{connections_seen}
use Rattle.aud_client.specs.declared.client_tap.ClientTap.TheInside.{Inside}

-- a connection of these records
abbrev pub cut_seen : (ℕ × List (ℕ × ClientRec)) → Connection
cut_seen cut = record { c = cut.0; packets = packets_in cut.1 }

-- the first bad record of these connections
abbrev pub bad_of : List (ℕ × List (ℕ × ClientRec)) → Option ℕ
bad_of cuts = first_of (flat_map (λ (cut : ℕ × List (ℕ × ClientRec)). bad_in cut.1) cuts)

-- the connection that the record begins, if it begins one
abbrev pub begun : ℕ → ClientRec → List ClientRec → List (ℕ × List (ℕ × ClientRec))
begun number (Conn c) after = (c, numbered_records (suc number) (inside after)) ∷ []
begun number _ after = []

-- the connections and the first bad record are those of the records
pub record HoldsConnections (t : Inside) : Type 0 where
  pub connections_are : connections_seen t.read.list.items ≡ (tap_packets t.recs.now).connections
  pub bad_is : t.read.bad ≡ (tap_packets t.recs.now).bad
