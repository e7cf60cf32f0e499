-- What is kept of the stays and of their records, through one packet more.
use Rattle.std.proofs.Common.{◌≡◌, ℕ, ◌+◌, true, false, not, Bool, cond, List, [], ◌∷◌, ◌++◌, length, set, map, refl, sym, ap, ◌∙◌, subst, arith, length-append, Some, None, option_map, slice_get, Result, Ok, Err, OnOk}
use Rattle.std.specs.Str.{bytes_eq}
use Rattle.std.proofs.lemmas.Bool.{true≢false}
use Rattle.std.proofs.lemmas.List.{append_assoc, length-map, map-append, map-set}
use Rattle.std.proofs.lemmas.Option.{slice_get-map}
use Rattle.aud_tap.specs.declared.records.StreamRec.{StreamRec}
use Rattle.aud_client.specs.Stays.{namespace, is_disconnect, begins_stay, stays, stay_after}
use Rattle.aud_client.specs.StaySeen.{StaySeen, stay_of}
use Rattle.aud_client.specs.Open.{place, open_place}
use Rattle.aud_client.specs.PlacedStays.{PlacedPacket, forgotten, goes_on_placed, placed_after, begins_placed, placed_stays}
use Rattle.aud_client.specs.StayPlaces.{PlacesSeen, places_of}
use Rattle.aud_client.specs.Private.Kept.{Keeps, KeepsStays, open_at, place_for, empty_stay, grown, no_places, grown_places}
use Rattle.aud_client.specs.declared.stays.Stays.{Stays}
use Rattle.aud_client.proofs.Kept.{open_stay, none-begins, some-goes_on, kept-begin, kept-go_on}
use Rattle.aud_client.proofs.Maps.{get_after, set_after}
use Rattle.aud_client.proofs.PlacedOnePass.{grow, grow-set, last_in-placed, placed-begins, placed-goes_on}
use Rattle.aud_client.proofs.Forgetting.{forgotten-append, forgotten-stays, begins-forgotten, number-forgotten}
use Rattle.aud_client.proofs.TellingPlaces.{places_of-first, places_of-more}

-- the stay that stands open in the packet's namespace
record IsOpenAt (l : List PlacedPacket) (q : PlacedPacket) (k : ℕ) : Type 0 where
  is : slice_get (placed_stays l) k ≡ Some (placed_after (namespace q.1) l)
  grows : grow (namespace q.1) q (placed_stays l) ≡ set (placed_stays l) k (placed_after (namespace q.1) l ++ q ∷ [])

-- its number among those without their records
number_in : (n : List ℕ) (l : List PlacedPacket) (k : ℕ) → open_place n (forgotten l) ≡ Some k → place n (stays (forgotten l)) ≡ Some k
number_in n l k e = grind arith

is_open : (l : List PlacedPacket) (q : PlacedPacket) (k : ℕ) → open_place (namespace q.1) (forgotten l) ≡ Some k → IsOpenAt l q k
is_open l q k e =
    let n = namespace q.1 in
    let found = grow-set n q (placed_stays l) k (number-forgotten n (placed_stays l) ∙ ap (place n) (forgotten-stays l) ∙ number_in n l k e) in
    record {
      is = found.1 ∙ ap Some (last_in-placed n l);
      grows = found.0 ∙ ap (λ s. set (placed_stays l) k (s ++ q ∷ [])) (last_in-placed n l);
    }

module _ (stream : List StreamRec) (c : ℕ) where
  -- there are as many records as stays
  as_many : (st : Stays) (done : List StaySeen) (told : List PlacesSeen) (l : List PlacedPacket) → Keeps stream c st done told l → length st.places.items ≡ length st.stays.items
  as_many st done told l keeps =
      ap length keeps.places_are ∙ length-append told (map (places_of stream) (placed_stays l))
      ∙ ap (λ k. length told + k) (length-map (placed_stays l) (places_of stream) ∙ sym (length-map (placed_stays l) forgotten) ∙ ap length (forgotten-stays l))
      ∙ ap (λ k. k + length (stays (forgotten l))) keeps.as_many
      ∙ ap (λ k. length done + k) (sym (length-map (stays (forgotten l)) (stay_of stream c)))
      ∙ sym (length-append done (map (stay_of stream c) (stays (forgotten l))))
      ∙ sym (ap length keeps.keeps_stays.stays_are)

  -- a packet that begins a stay
  pub keeps-begin : {T E : Type 0} (r : Result T E) (st nw : Stays) (done : List StaySeen) (told : List PlacesSeen) (l : List PlacedPacket) (q : PlacedPacket) → place_for st q.1 ≡ None
      → OnOk r (nw.stays.items ≡ st.stays.items ++ grown stream (empty_stay c (namespace q.1)) q.1 ∷ [])
      → (length st.places.items ≡ length st.stays.items → OnOk r (nw.places.items ≡ st.places.items ++ grown_places stream (no_places q.0) q ∷ []))
      → OnOk r ((n : List ℕ) → open_at nw n ≡ cond (bytes_eq (namespace q.1) n) (cond (is_disconnect q.1) None (Some (length st.stays.items))) (open_at st n))
      → Keeps stream c st done told l → OnOk r (Keeps stream c nw done told (l ++ q ∷ []))
  keeps-begin (Err x) st nw done told l q e list records opens keeps = tt
  keeps-begin {E = E} (Ok x) st nw done told l q e list records opens keeps =
      let starts : begins_stay (forgotten l) q.1 ≡ true = none-begins stream c st done (forgotten l) q.1 keeps.keeps_stays e in
      record {
        keeps_stays = subst (KeepsStays stream c nw done) (sym (forgotten-append l (q ∷ []))) (kept-begin stream c {E = E} (Ok x) st nw done (forgotten l) q.1 e list opens keeps.keeps_stays);
        places_are =
            records (as_many st done told l keeps) ∙ ap (λ ts. ts ++ grown_places stream (no_places q.0) q ∷ []) keeps.places_are
            ∙ append_assoc told (map (places_of stream) (placed_stays l)) (grown_places stream (no_places q.0) q ∷ [])
            ∙ ap (λ t. told ++ (map (places_of stream) (placed_stays l) ++ t ∷ [])) (sym (places_of-first stream q))
            ∙ ap (λ ts. told ++ ts) (sym (map-append (places_of stream) (placed_stays l) ((q ∷ []) ∷ [])))
            ∙ ap (λ ss. told ++ map (places_of stream) ss) (sym (placed-begins [] l q (begins-forgotten l q ∙ starts)));
        as_many = keeps.as_many;
      }

  -- a packet that goes on with one
  pub keeps-go_on : {T E : Type 0} (r : Result T E) (st nw : Stays) (done : List StaySeen) (told : List PlacesSeen) (l : List PlacedPacket) (q : PlacedPacket) (place : ℕ) → place_for st q.1 ≡ Some place
      → ((s : StaySeen) → slice_get st.stays.items place ≡ Some s → OnOk r (nw.stays.items ≡ set st.stays.items place (grown stream s q.1)))
      → ((s : StaySeen) (t : PlacesSeen) → slice_get st.stays.items place ≡ Some s → slice_get st.places.items place ≡ Some t → OnOk r (nw.places.items ≡ set st.places.items place (grown_places stream t q)))
      → OnOk r ((n : List ℕ) → open_at nw n ≡ cond (bytes_eq (namespace q.1) n) (cond (is_disconnect q.1) None (open_at st n)) (open_at st n))
      → Keeps stream c st done told l → OnOk r (Keeps stream c nw done told (l ++ q ∷ []))
  keeps-go_on (Err x) st nw done told l q place e list records opens keeps = tt
  keeps-go_on {E = E} (Ok x) st nw done told l q place e list records opens keeps =
      record {
        keeps_stays = subst (KeepsStays stream c nw done) (sym (forgotten-append l (q ∷ []))) (kept-go_on stream c {E = E} (Ok x) st nw done (forgotten l) q.1 place e list opens keeps.keeps_stays);
        places_are = go (some-goes_on stream c st done (forgotten l) q.1 place keeps.keeps_stays e);
        as_many = keeps.as_many;
      }
    where
      twice : (b : Bool) → not b ≡ false → b ≡ true
      twice true e = refl
      twice false e = absurd (true≢false e)

      go : (begins_stay (forgotten l) q.1 ≡ false) × ((k : ℕ) × (open_place (namespace q.1) (forgotten l) ≡ Some k) × (length done + k ≡ place))
          → nw.places.items ≡ told ++ map (places_of stream) (placed_stays (l ++ q ∷ []))
      go (goes, (k, at, is)) =
          let stay = placed_after (namespace q.1) l in
          let goes_placed : begins_placed l q ≡ false = begins-forgotten l q ∙ goes in
          let there : length told + k ≡ place = ap (λ n. n + k) keeps.as_many ∙ is in
          let its_stay : slice_get st.stays.items place ≡ Some (stay_of stream c (stay_after (namespace q.1) (forgotten l))) =
          ap (slice_get st.stays.items) (sym is) ∙ open_stay stream c st done (forgotten l) q.1 k keeps.keeps_stays at in
          let its_records : slice_get st.places.items place ≡ Some (places_of stream stay) =
          ap (slice_get st.places.items) (sym there) ∙ ap (λ ts. slice_get ts (length told + k)) keeps.places_are
          ∙ get_after told (map (places_of stream) (placed_stays l)) k ∙ slice_get-map (places_of stream) (placed_stays l) k ∙ ap (option_map (places_of stream)) (is_open l q k at).is in
          records (stay_of stream c (stay_after (namespace q.1) (forgotten l))) (places_of stream stay) its_stay its_records
          ∙ ap (λ i. set st.places.items i (grown_places stream (places_of stream stay) q)) (sym there)
          ∙ ap (λ ts. set ts (length told + k) (grown_places stream (places_of stream stay) q)) keeps.places_are
          ∙ set_after told (map (places_of stream) (placed_stays l)) k (grown_places stream (places_of stream stay) q)
          ∙ ap (λ t. told ++ set (map (places_of stream) (placed_stays l)) k t) (sym (places_of-more stream stay q (twice (goes_on_placed stay q) goes_placed)))
          ∙ ap (λ ts. told ++ ts) (sym (map-set (places_of stream) (placed_stays l) k (stay ++ q ∷ [])))
          ∙ ap (λ ss. told ++ map (places_of stream) ss) (sym (placed-goes_on [] l q goes_placed ∙ (is_open l q k at).grows))
