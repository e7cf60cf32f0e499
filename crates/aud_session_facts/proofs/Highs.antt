-- How far the turns of a certificate reach.
use Rattle.std.proofs.Common.{◌≡◌, List, [], ◌∷◌, map, max, refl, ap}
use Rattle.aud_node.specs.Cluster.{Cluster}
use Rattle.aud_rooms.specs.Turns.{Turn, slice_of}
use Rattle.aud_rooms.specs.TurnsDue.{greatest_high}
use Rattle.aud_maker.specs.Made.{turn_seen}
use Rattle.aud_session_facts.specs.Opened.{greatest_turn_high}

-- the greatest position of turns as a certificate has them
pub highs : (c : Cluster) (turns : List Turn) → greatest_turn_high (map (turn_seen c) turns) ≡ greatest_high (map (slice_of c) turns)
highs c [] = refl
highs c (t ∷ turns) = ap (max (slice_of c t).high) (highs c turns)
