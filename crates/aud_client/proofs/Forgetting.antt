-- Stays of packets at their records, without the records.
use Rattle.std.proofs.Common.{◌≡◌, ℕ, not, List, [], ◌∷◌, ◌++◌, map, flat_map, refl, sym, ap, ◌∙◌, arith}
use Rattle.std.proofs.lemmas.List.{map-append}
use Rattle.std.proofs.lemmas.Simd.{map-map}
use Rattle.aud_tap.specs.declared.records.StreamRec.{StreamRec}
use Rattle.aud_tap.specs.declared.records.ClientRec.{ClientRec}
use Rattle.aud_client.specs.TapPackets.{TapPacket, Connection, tap_packets}
use Rattle.aud_client.specs.Stays.{namespace, in_namespace, goes_on, whole_stay, last_stay, stay_after, stay_at, begins_stay, stays_from, stays}
use Rattle.aud_client.specs.StaySeen.{stay_of}
use Rattle.aud_client.specs.Received.{stays_of, tap_stays}
use Rattle.aud_client.specs.Open.{of_namespace, has_stay, place}
use Rattle.aud_client.specs.PlacedStays.{PlacedPacket, forgotten, placed_in, whole_placed, last_placed, placed_after, placed_at, begins_placed, placed_from, placed_stays}
use Rattle.aud_client.proofs.PlacedIn.{of_placed, has_placed}
use Rattle.aud_client.proofs.PlacedOnePass.{placed_number}

-- of two lists
pub forgotten-append : (l r : List PlacedPacket) → forgotten (l ++ r) ≡ forgotten l ++ forgotten r
forgotten-append l r = map-append (λ (q : ℕ × TapPacket). q.1) l r

-- the packets of a namespace
forgotten-in : (n : List ℕ) (l : List PlacedPacket) → forgotten (placed_in n l) ≡ in_namespace n (forgotten l)
forgotten-in n [] = refl
forgotten-in n (q ∷ l) = grind (arith, forgotten-in n l)

-- a stay, and the packets after
forgotten-whole : (s l : List PlacedPacket) → forgotten (whole_placed s l) ≡ whole_stay (forgotten s) (forgotten l)
forgotten-whole s [] = refl
forgotten-whole s (q ∷ l) = grind (arith, forgotten-whole (s ++ q ∷ []) l, forgotten-append s (q ∷ []))

forgotten-last : (s l : List PlacedPacket) → forgotten (last_placed s l) ≡ last_stay (forgotten s) (forgotten l)
forgotten-last s [] = refl
forgotten-last s (q ∷ l) = grind (arith, forgotten-last (s ++ q ∷ []) l, forgotten-last (q ∷ []) l, forgotten-append s (q ∷ []))

pub forgotten-after : (n : List ℕ) (l : List PlacedPacket) → forgotten (placed_after n l) ≡ stay_after n (forgotten l)
forgotten-after n l = forgotten-last [] (placed_in n l) ∙ ap (last_stay []) (forgotten-in n l)

forgotten-at : (before : List PlacedPacket) (q : PlacedPacket) (after : List PlacedPacket) → forgotten (placed_at before q after) ≡ stay_at (forgotten before) q.1 (forgotten after)
forgotten-at before q after =
    forgotten-whole (placed_after (namespace q.1) (before ++ q ∷ [])) (placed_in (namespace q.1) after)
    ∙ ap (λ s. whole_stay s (forgotten (placed_in (namespace q.1) after))) (forgotten-after (namespace q.1) (before ++ q ∷ []) ∙ ap (stay_after (namespace q.1)) (forgotten-append before (q ∷ [])))
    ∙ ap (whole_stay (stay_after (namespace q.1) (forgotten before ++ q.1 ∷ []))) (forgotten-in (namespace q.1) after)

-- a packet begins a stay where it does without its record
pub begins-forgotten : (before : List PlacedPacket) (q : PlacedPacket) → begins_placed before q ≡ begins_stay (forgotten before) q.1
begins-forgotten before q = ap (λ s. not (goes_on s q.1)) (forgotten-after (namespace q.1) before)

-- the stays that begin
forgotten-from : (before after : List PlacedPacket) → map forgotten (placed_from before after) ≡ stays_from (forgotten before) (forgotten after)
forgotten-from before [] = refl
forgotten-from before (q ∷ after) =
    grind (arith, forgotten-from (before ++ q ∷ []) after, forgotten-append before (q ∷ []), begins-forgotten before q, forgotten-at before q after)

-- the stays of a connection
pub forgotten-stays : (placed : List PlacedPacket) → map forgotten (placed_stays placed) ≡ stays (forgotten placed)
forgotten-stays placed = forgotten-from [] placed

-- what they tell
pub told_placed_in : (stream : List StreamRec) (c : ℕ) (placed : List PlacedPacket)
    → map (λ stay. stay_of stream c (forgotten stay)) (placed_stays placed) ≡ map (stay_of stream c) (stays (forgotten placed))
told_placed_in stream c placed =
    sym (map-map (stay_of stream c) forgotten (placed_stays placed)) ∙ ap (map (stay_of stream c)) (forgotten-stays placed)

-- connection after connection
told_in : (stream : List StreamRec) (connections : List Connection)
    → flat_map (λ (connection : Connection). map (λ stay. stay_of stream connection.c (forgotten stay)) (placed_stays connection.packets)) connections ≡ flat_map (stays_of stream) connections
told_in stream [] = refl
told_in stream (connection ∷ connections) =
    ap (λ l. l ++ flat_map (λ (x : Connection). map (λ stay. stay_of stream x.c (forgotten stay)) (placed_stays x.packets)) connections)
    (told_placed_in stream connection.c connection.packets)
    ∙ ap (λ l. stays_of stream connection ++ l) (told_in stream connections)

pub told_placed : (stream : List StreamRec) (recs : List ClientRec)
    → flat_map (λ (connection : Connection). map (λ stay. stay_of stream connection.c (forgotten stay)) (placed_stays connection.packets)) (tap_packets recs).connections ≡ tap_stays stream recs
told_placed stream recs = told_in stream (tap_packets recs).connections

-- ---- the number of the last stay in a namespace

of-forgotten : (n : List ℕ) (s : List PlacedPacket) → of_placed n s ≡ of_namespace n (forgotten s)
of-forgotten n [] = refl
of-forgotten n (q ∷ s) = refl

has-forgotten : (n : List ℕ) (ss : List (List PlacedPacket)) → has_placed n ss ≡ has_stay n (map forgotten ss)
has-forgotten n [] = refl
has-forgotten n (s ∷ ss) = grind (arith, has-forgotten n ss, of-forgotten n s)

pub number-forgotten : (n : List ℕ) (ss : List (List PlacedPacket)) → placed_number n ss ≡ place n (map forgotten ss)
number-forgotten n [] = refl
number-forgotten n (s ∷ ss) = grind (arith, number-forgotten n ss, has-forgotten n ss, of-forgotten n s)
