-- What is kept, through one packet more.
use Rattle.std.proofs.Common.{◌≡◌, ℕ, ◌+◌, ◌<◌, Bool, true, false, not, cond, List, [], ◌∷◌, ◌++◌, length, set, map, get_or, refl, sym, ap, ◌∙◌, arith, length-append, Option, Some, None, option_map, slice_get, Result, Ok, Err, OnOk}
use Rattle.std.specs.Str.{bytes_eq}
use Rattle.std.proofs.lemmas.Bool.{true≢false}
use Rattle.std.proofs.lemmas.List.{append_assoc, length-map, map-append, map-set}
use Rattle.std.proofs.lemmas.Option.{same_Some, slice_get-map, slice_get_read}
use Rattle.aud_tap.specs.declared.records.StreamRec.{StreamRec}
use Rattle.aud_client.specs.TapPackets.{TapPacket}
use Rattle.aud_client.specs.declared.stays.Stays.{Stays}
use Rattle.aud_client.specs.Stays.{namespace, is_disconnect, goes_on, stay_after, begins_stay, stays}
use Rattle.aud_client.specs.Open.{open_place}
use Rattle.aud_client.specs.StaySeen.{StaySeen, stay_of}
use Rattle.aud_client.specs.Private.Kept.{KeepsStays, open_at, place_for, empty_stay, grown}
use Rattle.aud_client.proofs.OnePass.{stays-begins, stays-goes_on}
use Rattle.aud_client.proofs.Steps.{open-none, open-some, open-begins, open-goes_on}
use Rattle.aud_client.proofs.Telling.{has_reply, stay_of-first, stay_of-more}
use Rattle.aud_client.proofs.Maps.{get_after, set_after, set_last}
use Rattle.aud_base.proofs.Lists.{after_these}

-- what holds, holds where all went well
pub always : {T E : Type 0} {P : Type 0} (r : Result T E) → P → OnOk r P
always (Err e) h = tt
always (Ok x) h = h

-- an element that changes at its place
pub changed_at : {X : Type 0} {T E : Type 0} (r : Result T E) (items : List X) (place : ℕ) (s new t : X) (f : X → X)
    → place < length items → s ≡ get_or items place s → slice_get items place ≡ Some t
    → OnOk r (new ≡ f s) → OnOk r (set items place new ≡ set items place (f t))
changed_at (Err e) items place s new t f h at is w = tt
changed_at (Ok x) items place s new t f h at is w =
    let here : s ≡ t = same_Some s t (sym (slice_get_read items (length items) place s refl h at) ∙ is) in
    ap (set items place) (w ∙ ap f here)

-- an element that changes at the end
pub changed_last : {X : Type 0} {T E : Type 0} (r : Result T E) (items begun changed : List X) (place : ℕ) (t v : X)
    → place ≡ length items → begun ≡ items ++ t ∷ []
    → (slice_get begun place ≡ Some t → OnOk r (changed ≡ set begun place v)) → OnOk r (changed ≡ items ++ v ∷ [])
changed_last (Err e) items begun changed place t v at is w = tt
changed_last (Ok x) items begun changed place t v at is w =
    w (ap (slice_get begun) at ∙ ap (λ l. slice_get l (length items)) is ∙ after_these items [] t)
    ∙ ap (λ i. set begun i v) at ∙ ap (λ l. set l (length items) v) is ∙ set_last items t v

module _ (stream : List StreamRec) (c : ℕ) where
  -- the stay that stands open in the packet's namespace
  pub open_stay : (st : Stays) (done : List StaySeen) (l : List TapPacket) (p : TapPacket) (k : ℕ) → KeepsStays stream c st done l → open_place (namespace p) l ≡ Some k
      → slice_get st.stays.items (length done + k) ≡ Some (stay_of stream c (stay_after (namespace p) l))
  open_stay st done l p k keeps at =
      ap (λ ts. slice_get ts (length done + k)) keeps.stays_are ∙ get_after done (map (stay_of stream c) (stays l)) k ∙ slice_get-map (stay_of stream c) (stays l) k ∙ ap (option_map (stay_of stream c)) (open-some l p k at).0

  -- the place that the code finds, in the words of the definition
  pub place_for-is : (st : Stays) (done : List StaySeen) (l : List TapPacket) (p : TapPacket) → KeepsStays stream c st done l
      → place_for st p ≡ cond (begins_stay l p) None (option_map (λ k. length done + k) (open_place (namespace p) l))
  place_for-is st done l p keeps = go (open_place (namespace p) l) refl
    where
      go : (o : Option ℕ) → open_place (namespace p) l ≡ o → place_for st p ≡ cond (begins_stay l p) None (option_map (λ k. length done + k) o)
      go None at = grind (arith, keeps.open_are (namespace p), at)
      go (Some k) at = grind (arith, keeps.open_are (namespace p), open_stay st done l p k keeps at, open-some l p k at, has_reply (stay_after (namespace p) l))

  -- where it finds none, the packet begins a stay
  pub none-begins : (st : Stays) (done : List StaySeen) (l : List TapPacket) (p : TapPacket) → KeepsStays stream c st done l → place_for st p ≡ None → begins_stay l p ≡ true
  none-begins st done l p keeps e = grind (arith, place_for-is st done l p keeps, open-none l p)

  -- where it finds one, the packet goes on with the stay there
  pub some-goes_on : (st : Stays) (done : List StaySeen) (l : List TapPacket) (p : TapPacket) (place : ℕ) → KeepsStays stream c st done l → place_for st p ≡ Some place
      → (begins_stay l p ≡ false) × ((k : ℕ) × (open_place (namespace p) l ≡ Some k) × (length done + k ≡ place))
  some-goes_on st done l p place keeps e = grind (arith, place_for-is st done l p keeps)

  -- a packet that begins a stay
  pub kept-begin : {T E : Type 0} (r : Result T E) (st nw : Stays) (done : List StaySeen) (l : List TapPacket) (p : TapPacket) → place_for st p ≡ None
      → OnOk r (nw.stays.items ≡ st.stays.items ++ grown stream (empty_stay c (namespace p)) p ∷ [])
      → OnOk r ((n : List ℕ) → open_at nw n ≡ cond (bytes_eq (namespace p) n) (cond (is_disconnect p) None (Some (length st.stays.items))) (open_at st n))
      → KeepsStays stream c st done l → OnOk r (KeepsStays stream c nw done (l ++ p ∷ []))
  kept-begin (Err x) st nw done l p e list opens keeps = tt
  kept-begin (Ok x) st nw done l p e list opens keeps =
      record {
        stays_are =
            list ∙ ap (λ ts. ts ++ grown stream (empty_stay c (namespace p)) p ∷ []) keeps.stays_are
            ∙ append_assoc done (map (stay_of stream c) (stays l)) (grown stream (empty_stay c (namespace p)) p ∷ [])
            ∙ ap (λ t. done ++ (map (stay_of stream c) (stays l) ++ t ∷ [])) (sym (stay_of-first stream c p))
            ∙ ap (λ ts. done ++ ts) (sym (map-append (stay_of stream c) (stays l) ((p ∷ []) ∷ [])))
            ∙ ap (λ ss. done ++ map (stay_of stream c) ss) (sym (stays-begins [] l p starts));
        open_are = λ n.
            opens n ∙ ap (λ o. cond (bytes_eq (namespace p) n) (cond (is_disconnect p) None (Some (length st.stays.items))) o) (keeps.open_are n)
            ∙ ap (λ m. cond (bytes_eq (namespace p) n) (cond (is_disconnect p) None (Some m)) (option_map (λ k. length done + k) (open_place n l))) size
            ∙ out (bytes_eq (namespace p) n) (is_disconnect p) (open_place n l)
            ∙ ap (option_map (λ k. length done + k)) (sym (open-begins l p starts n));
      }
    where
      starts : begins_stay l p ≡ true
      starts = none-begins st done l p keeps e

      size : length st.stays.items ≡ length done + length (stays l)
      size = ap length keeps.stays_are ∙ length-append done (map (stay_of stream c) (stays l)) ∙ ap (λ k. length done + k) (length-map (stays l) (stay_of stream c))

      out : (b d : Bool) (o : Option ℕ) → cond b (cond d None (Some (length done + length (stays l)))) (option_map (λ k. length done + k) o)
          ≡ option_map (λ k. length done + k) (cond b (cond d None (Some (length (stays l)))) o)
      out true true o = refl
      out true false o = refl
      out false d o = refl

  -- a packet that goes on with one
  pub kept-go_on : {T E : Type 0} (r : Result T E) (st nw : Stays) (done : List StaySeen) (l : List TapPacket) (p : TapPacket) (place : ℕ) → place_for st p ≡ Some place
      → ((t : StaySeen) → slice_get st.stays.items place ≡ Some t → OnOk r (nw.stays.items ≡ set st.stays.items place (grown stream t p)))
      → OnOk r ((n : List ℕ) → open_at nw n ≡ cond (bytes_eq (namespace p) n) (cond (is_disconnect p) None (open_at st n)) (open_at st n))
      → KeepsStays stream c st done l → OnOk r (KeepsStays stream c nw done (l ++ p ∷ []))
  kept-go_on (Err x) st nw done l p place e list opens keeps = tt
  kept-go_on (Ok x) st nw done l p place e list opens keeps = go (some-goes_on st done l p place keeps e)
    where
      twice : (b : Bool) → not b ≡ false → b ≡ true
      twice true e = refl
      twice false e = absurd (true≢false e)

      out : (b d : Bool) (o : Option ℕ) → cond b (cond d None (option_map (λ k. length done + k) o)) (option_map (λ k. length done + k) o)
          ≡ option_map (λ k. length done + k) (cond b (cond d None o) o)
      out true true o = refl
      out true false o = refl
      out false d o = refl

      go : (begins_stay l p ≡ false) × ((k : ℕ) × (open_place (namespace p) l ≡ Some k) × (length done + k ≡ place)) → KeepsStays stream c nw done (l ++ p ∷ [])
      go (goes, (k, at, is)) =
          let stay = stay_after (namespace p) l in
          record {
            stays_are =
                list (stay_of stream c stay) (ap (slice_get st.stays.items) (sym is) ∙ open_stay st done l p k keeps at)
                ∙ ap (λ i. set st.stays.items i (grown stream (stay_of stream c stay) p)) (sym is)
                ∙ ap (λ ts. set ts (length done + k) (grown stream (stay_of stream c stay) p)) keeps.stays_are
                ∙ set_after done (map (stay_of stream c) (stays l)) k (grown stream (stay_of stream c stay) p)
                ∙ ap (λ t. done ++ set (map (stay_of stream c) (stays l)) k t) (sym (stay_of-more stream c stay p (twice (goes_on stay p) goes)))
                ∙ ap (λ ts. done ++ ts) (sym (map-set (stay_of stream c) (stays l) k (stay ++ p ∷ [])))
                ∙ ap (λ ss. done ++ map (stay_of stream c) ss) (sym (stays-goes_on [] l p goes ∙ (open-some l p k at).2));
            open_are = λ n.
                opens n ∙ ap (λ o. cond (bytes_eq (namespace p) n) (cond (is_disconnect p) None o) o) (keeps.open_are n)
                ∙ out (bytes_eq (namespace p) n) (is_disconnect p) (open_place n l)
                ∙ ap (option_map (λ k. length done + k)) (sym (open-goes_on l p goes n));
          }
