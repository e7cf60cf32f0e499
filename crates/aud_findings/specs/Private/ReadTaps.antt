-- What is read of taps: which are asked for, and where the packets of a client's tap stand, as they are held.
use Rattle.std.specs.Prelude.{◌≡◌, ◌<◌, ℕ, Bool, false, List, length, Some, nat_eq, slice_get}
use Rattle.std.specs.List.{list_any, slice_index_or}
use Rattle.aud_node.specs.Cluster.{Cluster}
use Rattle.aud_rows.specs.declared.client_places.ClientPlaces.{ClientPlaces}
use Rattle.aud_findings.specs.declared.prepared.HeldTap.{HeldTap}
use Rattle.aud_findings.specs.declared.prepared.HeldTap.TheVariants.{Kept, Read}
use Rattle.aud_findings.specs.declared.prepared.PreparedTap.{PreparedTap}
use Rattle.aud_findings.specs.Prepared.{IsRead}

-- of so many places, whether each is one of these
pub record AreWanted (count : ℕ) (places : List ℕ) (wanted : List Bool) : Type 0 where
  pub length_is : length wanted ≡ count
  pub each : (place : ℕ) → place < count → slice_get wanted place ≡ Some (list_any (nat_eq place) places)

-- this is read of the tap at the place, where these are wanted
abbrev pub IsReadBy : Cluster → List Bool → Bool → ℕ → PreparedTap → Type 0
IsReadBy c wanted orders place tap = IsRead c (slice_index_or wanted place false) orders place tap

abbrev pub held_places : HeldTap → ClientPlaces
held_places (Kept places) = places.now
held_places (Read places) = places
