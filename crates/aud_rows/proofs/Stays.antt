-- What stands at the records of a stay is what the stay tells.
use Rattle.std.proofs.Common.{◌≡◌, ℕ, List, [], ◌∷◌, map, flat_map, refl, subst, Option, Some, None, slice_get}
use Rattle.std.specs.List.{AllZip, Contains}
use Rattle.std.specs.Option.{IsSomeAnd}
use Rattle.std.proofs.lemmas.List.Elements.{All-contains_itself}
use Rattle.std.proofs.lemmas.Option.{MatchOption-at_some}
use Rattle.std.proofs.lemmas.Slice.Zip.{AllZip-left}
use Rattle.aud_tap.specs.declared.records.StreamRec.{StreamRec}
use Rattle.aud_tap.specs.declared.records.ClientRec.{ClientRec}
use Rattle.aud_client.specs.TapPackets.{TapPacket, Connection, tap_packets}
use Rattle.aud_client.specs.StaySeen.{StaySeen, stay_of, reply_at, ask_of, frame_of}
use Rattle.aud_client.specs.Received.{stays_of, tap_stays}
use Rattle.aud_client.specs.PlacedStays.{PlacedPacket, forgotten, placed_stays}
use Rattle.aud_client.specs.StayPlaces.{PlacesSeen, places_of, places_in, tap_places}
use Rattle.aud_client.specs.AreRecordsOf.{GivesAt, MayGiveAt}
use Rattle.aud_client.proofs.Forgetting.{told_placed_in}
use Rattle.aud_client.proofs.Giving.{Each, each_of, zip_append, all_given, ask_given, reply_given}
use Rattle.aud_rows.specs.ClientSays.{GivesIn}

each_itself : {X : Type 0} (xs : List X) → Each (Contains xs) xs
each_itself xs = each_of (Contains xs) xs (All-contains_itself xs)

zip_map : {X Y : Type 0} (P R : X → Y → Type 0) (xs : List X) (ys : List Y) → ((x : X) (y : Y) → P x y → R x y) → AllZip P xs ys → AllZip R xs ys
zip_map P R [] [] f h = tt
zip_map P R [] (y ∷ ys) f h = absurd h
zip_map P R (x ∷ xs) [] f h = absurd h
zip_map P R (x ∷ xs) (y ∷ ys) f h = (f x y h.0, zip_map P R xs ys f h.1)

-- the elements with one number
pub zip_at : {X Y : Type 0} (R : X → Y → Type 0) (xs : List X) (ys : List Y) → AllZip R xs ys → (k : ℕ) (x : X) (y : Y) → slice_get xs k ≡ Some x → slice_get ys k ≡ Some y → R x y
zip_at R xs ys h k x y ex ey =
    subst (λ o. IsSomeAnd o (R x)) ey (MatchOption-at_some (Unit {0}) (λ z. IsSomeAnd (slice_get ys k) (R z)) x ex (AllZip-left R xs ys h k))

-- where there are a number and what is given, both are of one packet
abbrev pub MayGive : {X : Type 0} → (ℕ → X → Type 0) → Option ℕ → Option X → Type 0
MayGive G (Some number) (Some x) = G number x
MayGive G _ _ = Unit {0}

-- ---- the stays of a tap

-- the records of a stay give what the stay tells, in its connection
pub record Tells (stream : List StreamRec) (recs : List ClientRec) (places : PlacesSeen) (stay : StaySeen) : Type 0 where
  pub asks : MayGive (GivesIn recs ask_of stay.c) places.ask stay.asked
  pub replies : MayGive (GivesIn recs reply_at stay.c) places.reply stay.reply
  pub gets : AllZip (GivesIn recs (frame_of stream) stay.c) places.frames stay.frames

may_give : {X : Type 0} (s : List PlacedPacket) (gives : TapPacket → Option X) (H : ℕ → X → Type 0) (n : Option ℕ) (o : Option X) → ((m : ℕ) (x : X) → GivesAt s gives m x → H m x) → MayGiveAt s gives n o → MayGive H n o
may_give s gives H None None f h = tt
may_give s gives H None (Some x) f h = tt
may_give s gives H (Some n) None f h = tt
may_give s gives H (Some n) (Some x) f h = f n x h

module _ (stream : List StreamRec) (recs : List ClientRec) where
  module _ (connection : Connection) (there : Contains (tap_packets recs).connections connection) where
    given_in : {X : Type 0} (gives : TapPacket → Option X) (s : List PlacedPacket) → Contains (placed_stays connection.packets) s
        → (number : ℕ) (x : X) → GivesAt s gives number x → GivesIn recs gives connection.c number x
    given_in gives s is number x h = record { connection = connection; stay = s; is_there = there; is_numbered = refl; is_stay = is; gives_it = h }

    stay_tells : (s : List PlacedPacket) → Contains (placed_stays connection.packets) s → Tells stream recs (places_of stream s) (stay_of stream connection.c (forgotten s))
    stay_tells s is = record {
      asks = may_give s ask_of (GivesIn recs ask_of connection.c) _ _ (given_in ask_of s is) (ask_given s s (each_itself s));
      replies = may_give s reply_at (GivesIn recs reply_at connection.c) _ _ (given_in reply_at s is) (reply_given s s (each_itself s));
      gets = zip_map (GivesAt s (frame_of stream)) (GivesIn recs (frame_of stream) connection.c) _ _ (given_in (frame_of stream) s is) (all_given s (frame_of stream) s (each_itself s));
    }

    stays_tell : (ss : List (List PlacedPacket)) → Each (Contains (placed_stays connection.packets)) ss
        → AllZip (Tells stream recs) (map (places_of stream) ss) (map (λ stay. stay_of stream connection.c (forgotten stay)) ss)
    stays_tell [] h = tt
    stays_tell (s ∷ ss) h = (stay_tells s h.0, stays_tell ss h.1)

    connection_tells : AllZip (Tells stream recs) (places_in stream connection) (stays_of stream connection)
    connection_tells =
        subst (AllZip (Tells stream recs) (places_in stream connection)) (told_placed_in stream connection.c connection.packets)
        (stays_tell (placed_stays connection.packets) (each_itself (placed_stays connection.packets)))

  connections_tell : (cs : List Connection) → Each (Contains (tap_packets recs).connections) cs → AllZip (Tells stream recs) (flat_map (places_in stream) cs) (flat_map (stays_of stream) cs)
  connections_tell [] h = tt
  connections_tell (connection ∷ cs) h =
      zip_append (Tells stream recs) (places_in stream connection) (stays_of stream connection) (flat_map (places_in stream) cs) (flat_map (stays_of stream) cs)
      (connection_tells connection h.0) (connections_tell cs h.1)

  -- the stays of a tap, and their records
  pub tap_tells : AllZip (Tells stream recs) (tap_places stream recs) (tap_stays stream recs)
  tap_tells = connections_tell (tap_packets recs).connections (each_itself (tap_packets recs).connections)
