-- The turns of a session that nodes' logs begin.
use Rattle.std.specs.Prelude.{◌≡◌, ℕ, suc, List, [], ◌∷◌, length, Option, Some, None}
use Rattle.aud_node.specs.Stream.{Text}
use Rattle.aud_node.specs.Cluster.{Cluster, node_log}
use Rattle.aud_node.specs.TurnRecords.{turn_range}
use Rattle.aud_node.specs.OwnPlaces.{own_places}
use Rattle.aud_rooms.specs.Turns.{Turn}

-- the records with these numbers of the node at this place; else the other turn
abbrev pub placed_or : Option Turn → ℕ → Option (ℕ × ℕ) → Option Turn
placed_or other node None = other
placed_or other node (Some range) = Some (record { node = node; from = range.0; to = range.1 })

-- turn k in the first of these nodes whose log begins it
abbrev pub turn_begun : Cluster → List ℕ → Text → ℕ → Option Turn
turn_begun c [] pid k = None
turn_begun c (node ∷ nodes) pid k = placed_or (turn_begun c nodes pid k) node (turn_range (node_log c node) pid k)

-- these are the turns from turn k on
abbrev pub AreBegun : Cluster → List ℕ → Text → ℕ → List Turn → Type 0
AreBegun c nodes pid k [] = Unit {0}
AreBegun c nodes pid k (t ∷ later) = (turn_begun c nodes pid k ≡ Some t) × AreBegun c nodes pid (suc k) later

-- these are the session's turns from turn 0 on, up to the first that no node begins
pub record AreAllBegun (c : Cluster) (pid : Text) (turns : List Turn) : Type 0 where
  pub begun : AreBegun c (own_places c pid) pid 0 turns
  pub no_more : turn_begun c (own_places c pid) pid (length turns) ≡ None
