-- The stays that the packets of one connection form, each packet with the number of the record at which it is whole:
-- without the numbers they are those of `Stays` (`placed_stays_are_stays`).
use Rattle.std.specs.Prelude.{ℕ, Bool, not, List, [], ◌∷◌, ◌++◌, map, if◌then◌else◌}
use Rattle.std.specs.List.{filter}
use Rattle.std.specs.Str.{bytes_eq}
use Rattle.aud_node.specs.Stream.{Text}
use Rattle.aud_client.specs.TapPackets.{TapPacket}
use Rattle.aud_client.specs.Stays.{namespace, goes_on}

-- a packet, and the number of the record at which it is whole
abbrev pub PlacedPacket : Type 0
PlacedPacket = ℕ × TapPacket

-- the packets, without their records
abbrev pub forgotten : List PlacedPacket → List TapPacket
forgotten placed = map (λ (q : ℕ × TapPacket). q.1) placed

-- the packets of the namespace
abbrev pub placed_in : Text → List PlacedPacket → List PlacedPacket
placed_in nsp placed = filter (λ (q : ℕ × TapPacket). bytes_eq (namespace q.1) nsp) placed

-- whether the packet goes on with a stay of these packets
abbrev pub goes_on_placed : List PlacedPacket → PlacedPacket → Bool
goes_on_placed stay q = goes_on (forgotten stay) q.1

-- a stay of which these packets are the front, with what follows of it among the packets after, all of one namespace
abbrev pub whole_placed : List PlacedPacket → List PlacedPacket → List PlacedPacket
whole_placed stay [] = stay
whole_placed stay (q ∷ after) = if goes_on_placed stay q then whole_placed (stay ++ q ∷ []) after else stay

-- the stay in which the packets end, all of one namespace, after a stay that stands open
abbrev pub last_placed : List PlacedPacket → List PlacedPacket → List PlacedPacket
last_placed stay [] = stay
last_placed stay (q ∷ after) = last_placed (if goes_on_placed stay q then stay ++ q ∷ [] else q ∷ []) after

-- the stay in which the namespace's packets end
abbrev pub placed_after : Text → List PlacedPacket → List PlacedPacket
placed_after nsp placed = last_placed [] (placed_in nsp placed)

-- the stay of the packet with these in front of it and these after it: those of its namespace alone count
abbrev pub placed_at : List PlacedPacket → PlacedPacket → List PlacedPacket → List PlacedPacket
placed_at before q after = whole_placed (placed_after (namespace q.1) (before ++ q ∷ [])) (placed_in (namespace q.1) after)

-- whether the packet is the first one of its stay
abbrev pub begins_placed : List PlacedPacket → PlacedPacket → Bool
begins_placed before q = not (goes_on_placed (placed_after (namespace q.1) before) q)

-- the stays that begin after these packets
abbrev pub placed_from : List PlacedPacket → List PlacedPacket → List (List PlacedPacket)
placed_from before [] = []
placed_from before (q ∷ after) =
    if begins_placed before q
    then placed_at before q after ∷ placed_from (before ++ q ∷ []) after
    else placed_from (before ++ q ∷ []) after

-- the stays of a connection's packets, in the order of their first packet
abbrev pub placed_stays : List PlacedPacket → List (List PlacedPacket)
placed_stays placed = placed_from [] placed
