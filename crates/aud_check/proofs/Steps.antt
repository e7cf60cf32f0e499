-- One element more of a list, as a loop reads it.
use Rattle.std.proofs.Common.{add-one, ◌≡◌, ◌<◌, ◌+◌, ◌==◌, ℕ, Bool, false, List, [], ◌∷◌, ◌++◌, length, map, take, drop, get_or, Some, slice_get, refl, sym, ap, subst, ◌∙◌, arith, append-nil, true≢false}
use Rattle.std.specs.List.{list_all}
use Rattle.std.specs.Option.{option_map}
use Rattle.std.proofs.lemmas.Grind.{flat_map-append}
use Rattle.std.proofs.lemmas.List.{take-append-drop, map-append}
use Rattle.std.proofs.lemmas.List.Folds.{list_all-map}
use Rattle.std.proofs.lemmas.Option.{get_or_from_slice_get, same_Some, slice_get-map, slice_get_read, slice_get_within}
use Rattle.std.proofs.Math.Seq.{take-suc}
use Rattle.aud_tap.specs.declared.records.StreamRec.{StreamRec}
use Rattle.aud_rooms.specs.Turns.{Who}
use Rattle.aud_client.specs.StaySeen.{StaySeen, FrameSeen}
use Rattle.aud_check.specs.Frames.{AreEntries, IsEntry, IsFirstAltered, frames_in}
use Rattle.aud_check.specs.NamedStays.{are_of_session, is_of_session}
use Rattle.aud_base.proofs.Lists.{drop_at}

-- what is made of the element at a place stands at that place
pub at_map : {X Y : Type 0} (f : X → Y) (xs : List X) (i : ℕ) (x : X) → i < length xs → x ≡ get_or xs i x → slice_get (map f xs) i ≡ Some (f x)
at_map f xs i x h is = slice_get-map f xs i ∙ ap (option_map f) (slice_get_read xs (length xs) i x refl h is)

-- the first elements with one more are those before and the one at the place
pub take_at : {Y : Type 0} (ys : List Y) (i : ℕ) (y : Y) → slice_get ys i ≡ Some y → take (i + 1) ys ≡ take i ys ++ y ∷ []
take_at ys i y at = rw add-one (take-suc ys i y (slice_get_within ys i y at) ∙ ap (λ z. take i ys ++ z ∷ []) (get_or_from_slice_get ys i y y at))

-- the elements from a place on are the one there and those after it
pub drop_from : {Y : Type 0} (ys : List Y) (i : ℕ) (y : Y) → slice_get ys i ≡ Some y → drop i ys ≡ y ∷ drop (i + 1) ys
drop_from ys i y at = rw add-one (drop_at ys i y at)

-- ---- frames and entries

-- frames that are their entries, and one more that is its own
entries_both : (stream : List StreamRec) (before : List FrameSeen) (frame : FrameSeen) → AreEntries stream before → IsEntry stream frame → AreEntries stream (before ++ frame ∷ [])
entries_both stream [] frame all is = (is, tt)
entries_both stream (x ∷ before) frame (first, rest) is = (first, entries_both stream before frame rest is)

module _ {X : Type 0} (f : X → FrameSeen) (stream : List StreamRec) (xs : List X) (i : ℕ) (x : X) (h : i < length xs) (is : x ≡ get_or xs i x) (all : AreEntries stream (take i (map f xs))) where
  -- one frame more that is its entry
  pub entries_more : IsEntry stream (f x) → AreEntries stream (take (i + 1) (map f xs))
  entries_more entry = subst (AreEntries stream) (sym (take_at (map f xs) i (f x) (at_map f xs i x h is))) (entries_both stream (take i (map f xs)) (f x) all entry)

  -- a frame that isn't its entry is the first such, after frames that are
  pub altered_at : (IsEntry stream (f x) → ⊥) → IsFirstAltered stream (map f xs) (f x)
  altered_at fails =
      record {
        before = take i (map f xs);
        after = drop (i + 1) (map f xs);
        parts = sym (take-append-drop i (map f xs)) ∙ ap (λ ys. take i (map f xs) ++ ys) (drop_from (map f xs) i (f x) (at_map f xs i x h is));
        are_entries = all;
        is_altered = fails;
      }

-- ---- frames of stays

-- the frames of the stays so far, and of one more stay
pub frames_more : {X : Type 0} (f : X → StaySeen) (xs : List X) (i : ℕ) (x : X) (old new : List FrameSeen) → i < length xs → x ≡ get_or xs i x
    → old ≡ frames_in (take i (map f xs)) → new ≡ old ++ (f x).frames → new ≡ frames_in (take (i + 1) (map f xs))
frames_more f xs i x old new h is was more =
    more ∙ ap (λ fs. fs ++ (f x).frames) was
    ∙ ap (λ fs. frames_in (take i (map f xs)) ++ fs) (sym (append-nil (f x).frames))
    ∙ sym (flat_map-append (λ (stay : StaySeen). stay.frames) (take i (map f xs)) (f x ∷ []))
    ∙ sym (ap frames_in (take_at (map f xs) i (f x) (at_map f xs i x h is)))

-- what is made of the elements so far, and of one more
pub mapped_more : {X Y Z : Type 0} (f : X → Y) (g : Y → Z) (xs : List X) (i : ℕ) (x : X) (old new : List Z) → i < length xs → x ≡ get_or xs i x
    → old ≡ map g (take i (map f xs)) → new ≡ old ++ g (f x) ∷ [] → new ≡ map g (take (i + 1) (map f xs))
mapped_more f g xs i x old new h is was more =
    more ∙ ap (λ zs. zs ++ g (f x) ∷ []) was
    ∙ sym (map-append g (take i (map f xs)) (f x ∷ []))
    ∙ sym (ap (map g) (take_at (map f xs) i (f x) (at_map f xs i x h is)))

-- ---- attachments

module _ {X Y Z : Type 0} (f : X → Y) (g : Y → Z) (xs : List X) (zs : List Z) (i : ℕ) (x : X) (z : Z) (h : i < length xs) (is : x ≡ get_or xs i x) (k : i < length zs) (at : z ≡ get_or zs i z) where
  -- the element of the first list at the place
  left_at : slice_get (map g (map f xs)) i ≡ Some (g (f x))
  left_at = slice_get-map g (map f xs) i ∙ ap (option_map g) (at_map f xs i x h is)

  -- that of the second list
  right_at : slice_get zs i ≡ Some z
  right_at = slice_get_read zs (length zs) i z refl k at

  -- where these are the same too, the fronts with them are
  pub same_more : g (f x) ≡ z → take i (map g (map f xs)) ≡ take i zs → take (i + 1) (map g (map f xs)) ≡ take (i + 1) zs
  same_more e front =
      take_at (map g (map f xs)) i (g (f x)) left_at
      ∙ ap (λ ys. ys ++ g (f x) ∷ []) front
      ∙ ap (λ y. take i zs ++ y ∷ []) e
      ∙ sym (take_at zs i z right_at)

  -- where they aren't, neither are the lists
  pub differ_at : (g (f x) ≡ z → ⊥) → map g (map f xs) ≡ zs → ⊥
  differ_at fails same = fails (same_Some (g (f x)) z (sym left_at ∙ ap (λ ys. slice_get ys i) same ∙ right_at))

-- ---- stays of a session

-- where each of some stays is of the session, the stays are
pub all_of_session : {X : Type 0} (f : X → StaySeen) (who : Who) (xs : List X) (r : Bool) → 0 < length xs → r ≡ list_all (λ x. is_of_session who (f x)) xs → r ≡ are_of_session who (map f xs)
all_of_session f who [] r some is = absurd (omega arith)
all_of_session f who (x ∷ xs) r some is = is ∙ sym (list_all-map (is_of_session who) f (x ∷ xs))

-- a list that isn't empty has an element
pub some_where_not : {X : Type 0} (xs : List X) → (length xs == 0) ≡ false → 0 < length xs
some_where_not [] e = absurd (true≢false e)
some_where_not (x ∷ xs) e = omega arith
