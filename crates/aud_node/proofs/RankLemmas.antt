-- Entries whose offsets have ascending ranks.
use Rattle.std.proofs.Common.{◌≡◌, ℕ, ◌+◌, ◌-◌, ◌<◌, ◌≤◌, suc, true, false, cond, List, [], ◌∷◌, ◌++◌, map, length, get_or, take, refl, sym, ap, ◌∙◌, subst, arith, Some, None, option_map, slice_get, bytes_eq, nat_lt, nat_cmp, ltb-true, ltb-false, Err}
use Rattle.std.specs.List.Sorted.{IsBinarySearchResult}
use Rattle.std.specs.Option.{option_map_or}
use Rattle.std.proofs.lemmas.Bool.{false_from_ne_true, false≢true}
use Rattle.std.proofs.lemmas.List.{length_push, map-append, take_more, get_or_append_left, get_or_push}
use Rattle.std.proofs.lemmas.List.Sorted.{searched}
use Rattle.std.proofs.lemmas.Option.{none-some, same_Some, slice_get-get_or, slice_get-map, slice_get_within, get_or_from_slice_get}
use Rattle.std.proofs.lemmas.Slice.Eq.{bytes_eq-Decides}
use Rattle.aud_tap.specs.Rank.{rank}
use Rattle.aud_tap.specs.declared.records.StreamRec.{StreamRec}
use Rattle.aud_node.specs.Stream.{Text, position, offset_of}
use Rattle.aud_node.specs.Private.OffsetIndex.{AreFirst, Ascend, HoldsRanks, is_past, rank_at}
use Rattle.aud_node.proofs.PositionLemmas.{AreFirst-cons}

-- ---- ascending numbers

-- what is greater than the last of them is greater than each
past_each : (xs : List ℕ) (y i d : ℕ) → Ascend xs → is_past xs y ≡ true → i < length xs → get_or xs i d < y
past_each xs y i d up past within =
    let last = length xs - 1 in
    let read : is_past xs y ≡ nat_lt (get_or xs last d) y = ap (λ o. option_map_or (λ x. nat_lt x y) o true) (slice_get-get_or xs last d (omega arith)) in
    let more : get_or xs last d < y = ltb-true (get_or xs last d) y (sym read ∙ past) in
    elim (nat_lt i last) as (λ b. nat_lt i last ≡ b → get_or xs i d < y) [
      | true ↦ λ e. omega (arith, up i last d (ltb-true i last e) (omega arith), more)
      | false ↦ λ e. let is : i ≡ last = omega (arith, ltb-false i last e) in omega (arith, ap (λ k. get_or xs k d) is, more)
    ] refl

-- a greater number than the last is put at the end
Ascend-push : (xs : List ℕ) (y : ℕ) → Ascend xs → is_past xs y ≡ true → Ascend (xs ++ y ∷ [])
Ascend-push xs y up past i j d before within =
    let long = length_push xs y in
    let front = get_or_append_left xs (y ∷ []) d i (omega arith) in
    elim (nat_lt j (length xs)) as (λ b. nat_lt j (length xs) ≡ b → get_or (xs ++ y ∷ []) i d < get_or (xs ++ y ∷ []) j d) [
      | true ↦ λ e. let inside = ltb-true j (length xs) e in omega (arith, front, get_or_append_left xs (y ∷ []) d j inside, up i j d before inside)
      | false ↦ λ e. omega (arith, front, get_or_push xs y d j (omega (arith, ltb-false j (length xs) e)), past_each xs y i d up past (omega arith))
    ] refl

-- none of them is less than one before it
pub rising : (xs : List ℕ) → Ascend xs → (i j : ℕ) → i ≤ j → j < length xs → get_or xs i 0 ≤ get_or xs j 0
rising xs up i j le within =
    elim (nat_lt i j) as (λ b. nat_lt i j ≡ b → get_or xs i 0 ≤ get_or xs j 0) [
      | true ↦ λ e. omega (arith, up i j 0 (ltb-true i j e) within)
      | false ↦ λ e. let is : i ≡ j = omega (arith, ltb-false i j e) in omega (arith, ap (λ k. get_or xs k 0) is)
    ] refl

-- each of them stands there once
one_place : (xs : List ℕ) (i j : ℕ) → Ascend xs → i < length xs → j < length xs → get_or xs i 0 ≡ get_or xs j 0 → i ≡ j
one_place xs i j up i_within j_within same =
    elim (nat_lt i j) as (λ b. nat_lt i j ≡ b → i ≡ j) [
      | true ↦ λ e. absurd (omega (arith, up i j 0 (ltb-true i j e) j_within, same))
      | false ↦ λ e. elim (nat_lt j i) as (λ b. nat_lt j i ≡ b → i ≡ j) [
        | true ↦ λ f. absurd (omega (arith, up j i 0 (ltb-true j i f) i_within, same))
        | false ↦ λ f. omega (arith, ltb-false i j e, ltb-false j i f)
      ] refl
    ] refl

-- ---- the ranks of entries

-- those of one entry more
pub HoldsRanks-push : (stream : List StreamRec) (ranks : List ℕ) (i : ℕ) (e : StreamRec) (r : ℕ) → HoldsRanks (take i stream) ranks → i < length stream → e ≡ get_or stream i e → r ≡ rank_at e → is_past ranks r ≡ true
    → HoldsRanks (take (i + 1) stream) (ranks ++ r ∷ [])
HoldsRanks-push stream ranks i e r held within read is past =
    let before = take i stream in
    let more : take (i + 1) stream ≡ before ++ e ∷ [] = take_more stream i e within ∙ ap (λ x. before ++ x ∷ []) (sym read) in
    record {
      ranks_are = ap (λ rs. rs ++ r ∷ []) held.ranks_are ∙ ap (λ x. map rank_at before ++ x ∷ []) is ∙ sym (ap (map rank_at) more ∙ map-append rank_at before (e ∷ []));
      ascend = Ascend-push ranks r held.ascend past;
    }

-- the entry's rank stands at its place
rank_there : (stream : List StreamRec) (ranks : List ℕ) (i : ℕ) (e : StreamRec) → ranks ≡ map rank_at stream → slice_get stream i ≡ Some e → (i < length ranks) × (get_or ranks i 0 ≡ rank_at e)
rank_there stream ranks i e are here =
    let there : slice_get ranks i ≡ Some (rank_at e) = ap (λ rs. slice_get rs i) are ∙ slice_get-map rank_at stream i ∙ ap (option_map rank_at) here in
    (slice_get_within ranks i (rank_at e) there, get_or_from_slice_get ranks i (rank_at e) 0 there)

-- an entry with the offset has its rank
same_rank : (e : StreamRec) (off : Text) → bytes_eq (offset_of e) off ≡ true → rank_at e ≡ rank off
same_rank e off same = ap rank ((bytes_eq-Decides (offset_of e) off).0 same)

-- ---- positions

-- an offset that no entry has
position-none : (stream : List StreamRec) (off : Text) → ((i : ℕ) (e : StreamRec) → slice_get stream i ≡ Some e → bytes_eq (offset_of e) off ≡ false) → position stream off ≡ None
position-none [] off other = refl
position-none (e ∷ es) off other =
    ap (λ b. cond b (Some 1) (option_map suc (position es off))) (other 0 e refl) ∙ ap (option_map suc) (position-none es off (λ i. other (suc i)))

-- where the ranks ascend, each entry is the first with its offset
ascend-first : (stream : List StreamRec) → Ascend (map rank_at stream) → AreFirst stream
ascend-first [] up = λ i x here. absurd (none-some x here)
ascend-first (e ∷ es) up = AreFirst-cons e es (position-none es (offset_of e) other) (ascend-first es (λ i j d before within. up (suc i) (suc j) d (omega arith) (omega arith)))
  where
    other : (i : ℕ) (x : StreamRec) → slice_get es i ≡ Some x → bytes_eq (offset_of x) (offset_of e) ≡ false
    other i x here =
        let (within, is) = rank_there es (map rank_at es) i x refl here in
        false_from_ne_true (bytes_eq (offset_of x) (offset_of e)) (λ same. omega (arith, is, same_rank x (offset_of e) same, up 0 (suc i) 0 (omega arith) (omega arith)))

pub ranks-first : (stream : List StreamRec) (ranks : List ℕ) → HoldsRanks stream ranks → AreFirst stream
ranks-first stream ranks held = ascend-first stream (subst Ascend held.ranks_are held.ascend)

-- an offset that the entry has
pub found-by_rank : (stream : List StreamRec) (ranks : List ℕ) (off : Text) (i : ℕ) (e : StreamRec) → HoldsRanks stream ranks → slice_get stream i ≡ Some e → bytes_eq (offset_of e) off ≡ true → Some (suc i) ≡ position stream off
found-by_rank stream ranks off i e held here same =
    sym (ranks-first stream ranks held i e here) ∙ ap (position stream) ((bytes_eq-Decides (offset_of e) off).0 same)

-- an offset that the entry of its rank hasn't
pub other-by_rank : (stream : List StreamRec) (ranks : List ℕ) (off : Text) (i : ℕ) (e : StreamRec) → HoldsRanks stream ranks → slice_get stream i ≡ Some e → get_or ranks i 0 ≡ rank off → bytes_eq (offset_of e) off ≡ false
    → None ≡ position stream off
other-by_rank stream ranks off i e held here ranked differs = sym (position-none stream off other)
  where
    other : (j : ℕ) (x : StreamRec) → slice_get stream j ≡ Some x → bytes_eq (offset_of x) off ≡ false
    other j x there =
        let (i_within, i_is) = rank_there stream ranks i e held.ranks_are here in
        let (j_within, j_is) = rank_there stream ranks j x held.ranks_are there in
        false_from_ne_true (bytes_eq (offset_of x) off) (λ same.
        let place : i ≡ j = one_place ranks i j held.ascend i_within j_within (ranked ∙ sym (j_is ∙ same_rank x off same)) in
        let entry : x ≡ e = same_Some x e (sym there ∙ ap (slice_get stream) (sym place) ∙ here) in
        false≢true (sym (ap (λ y. bytes_eq (offset_of y) off) entry ∙ differs) ∙ same))

-- an offset of a rank that no entry has
pub none-by_rank : (stream : List StreamRec) (ranks : List ℕ) (off : Text) (i : ℕ) → HoldsRanks stream ranks → IsBinarySearchResult (λ y. nat_cmp y (rank off)) ranks (Err i) → None ≡ position stream off
none-by_rank stream ranks off i held search = sym (position-none stream off other)
  where
    other : (j : ℕ) (x : StreamRec) → slice_get stream j ≡ Some x → bytes_eq (offset_of x) off ≡ false
    other j x there =
        let (j_within, j_is) = rank_there stream ranks j x held.ranks_are there in
        let parted = searched ranks (rank off) (Err i) search (rising ranks held.ascend) in
        false_from_ne_true (bytes_eq (offset_of x) off) (λ same.
        let ranked = j_is ∙ same_rank x off same in
        elim (nat_lt j i) as (λ b. nat_lt j i ≡ b → ⊥) [
          | true ↦ λ e. omega (arith, ranked, parted.1 j (ltb-true j i e))
          | false ↦ λ e. omega (arith, ranked, parted.2 j (ltb-false j i e) j_within)
        ] refl)
