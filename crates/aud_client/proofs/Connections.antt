-- Packets more of a connection.
use Rattle.std.proofs.Common.{ℕ, List, [], ◌∷◌, ◌++◌, map, sym, ap, ◌∙◌, subst, append-nil, append_assoc}
use Rattle.std.proofs.lemmas.List.{map-append}
use Rattle.aud_tap.specs.declared.records.StreamRec.{StreamRec}
use Rattle.aud_client.specs.Seen.{placed_seen}
use Rattle.aud_client.specs.declared.connection.Placed.{Placed}
use Rattle.aud_client.specs.declared.stays.Stays.{Stays}
use Rattle.aud_client.specs.StaySeen.{StaySeen}
use Rattle.aud_client.specs.PlacedStays.{PlacedPacket}
use Rattle.aud_client.specs.StayPlaces.{PlacesSeen}
use Rattle.aud_client.specs.Private.Kept.{Keeps}

-- one packet more
pub packet_more : (stream : List StreamRec) (c : ℕ) (st : Stays) (done : List StaySeen) (told : List PlacesSeen) (before : List PlacedPacket) (packets : List Placed) (p : Placed)
    → Keeps stream c st done told ((before ++ map placed_seen packets) ++ placed_seen p ∷ []) → Keeps stream c st done told (before ++ map placed_seen (packets ++ p ∷ []))
packet_more stream c st done told before packets p keeps =
    subst (Keeps stream c st done told)
    (append_assoc before (map placed_seen packets) (placed_seen p ∷ []) ∙ ap (λ ps. before ++ ps) (sym (map-append placed_seen packets (p ∷ [])))) keeps

-- no packet more
pub packet_none : (stream : List StreamRec) (c : ℕ) (st : Stays) (done : List StaySeen) (told : List PlacesSeen) (before : List PlacedPacket)
    → Keeps stream c st done told before → Keeps stream c st done told (before ++ [])
packet_none stream c st done told before keeps = subst (Keeps stream c st done told) (sym (append-nil before)) keeps
