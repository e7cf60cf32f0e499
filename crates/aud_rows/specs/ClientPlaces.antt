-- Where the packets of the stays of a client's tap stand, and its connections begin and are lost.
use Rattle.std.specs.Prelude.{◌≡◌, ℕ, List, [], Option, Some, None}
use Rattle.aud_tap.specs.declared.records.StreamRec.{StreamRec}
use Rattle.aud_tap.specs.declared.records.ClientRec.{ClientRec}
use Rattle.aud_node.specs.Cluster.{Cluster}
use Rattle.aud_node.specs.NodeTaps.{client_at}
use Rattle.aud_client.specs.StayPlaces.{PlacesSeen, tap_places}
use Rattle.aud_rows.specs.declared.client_places.ClientPlaces.{ClientPlaces}
use Rattle.aud_rows.specs.Marks.{marks_of}

-- the records of the stays
abbrev pub places_in : List StreamRec → Option (List ClientRec) → List PlacesSeen
places_in stream (Some recs) = tap_places stream recs
places_in stream None = []

-- the marks
abbrev pub marks_in : Option (List ClientRec) → List ℕ
marks_in (Some recs) = marks_of recs
marks_in None = []

-- the records of the stays of the client's tap at this place
abbrev pub places_at : Cluster → ℕ → List PlacesSeen
places_at c place = places_in c.stream (client_at c place)

-- these are those of the tap at their place
pub record AreOf (c : Cluster) (tap : ClientPlaces) : Type 0 where
  pub marks_are : tap.marks.items ≡ marks_in (client_at c tap.place)
