-- The sessions of the parts, and the part that has the pids of a report.
use Rattle.std.proofs.Common.{◌≡◌, ℕ, zero, suc, ◌+◌, ◌<◌, ◌≤◌, ◌==◌, List, [], ◌∷◌, ◌++◌, length, map, take, drop, get_or, set, slice_get, Bool, true, false, cond, Option, Some, None, refl, sym, ap, ◌∙◌, arith, append-nil, bytes_eq, replicate}
use Rattle.std.specs.List.{filter, find, list_all, position_from}
use Rattle.std.specs.Option.{option_map_or}
use Rattle.std.specs.Cmp.Lexicographic.{pointwise}
use Rattle.std.proofs.lemmas.Bool.{and_parts, eq-eqb, ltb-true, ne_eqb, false≢true}
use Rattle.std.proofs.lemmas.Option.{get_or_from_slice_get}
use Rattle.std.proofs.lemmas.List.{map-set, map-append, length-map, get_or-map, at_drop_more, drop_all}
use Rattle.std.proofs.lemmas.List.Elements.{filter_more}
use Rattle.std.proofs.lemmas.List.Sums.{AllPass-from_list_all}
use Rattle.aud_base.specs.Lists.{numbers_from}
use Rattle.aud_base.specs.Places.{noted, places_where}
use Rattle.aud_base.proofs.NotedPlaces.{noted-at}
use Rattle.aud_node.specs.Stream.{Text}
use Rattle.aud_parts.specs.declared.listing.ListedSession.{ListedSession}
use Rattle.aud_parts.specs.Listing.{is_of_part, is_within, pids_of_part}
use Rattle.aud_parts.specs.Merged.{part_of}
use Rattle.aud_parts.specs.Private.PartPlaces.{first_or_none, begins_with, places_by_first, has_pids}

-- ---- lists that are made of consecutive numbers

module _ {X : Type 0} where
  -- two functions that agree from a number on
  pub map-numbers : (f g : ℕ → X) (first count : ℕ) → ((k : ℕ) → first ≤ k → k < first + count → f k ≡ g k) → map f (numbers_from first count) ≡ map g (numbers_from first count)
  map-numbers f g first zero same = refl
  map-numbers f g first (suc count) same =
      let here = same first (omega arith) (omega arith) in
      let later = map-numbers f g (suc first) count (λ k low high. same k (omega arith) (omega arith)) in
      λ i. here i ∷ later i

  -- another element at one of the numbers
  pub set-numbers : (f g : ℕ → X) (first count j : ℕ) → j < count → ((k : ℕ) → (first + j ≡ k → ⊥) → f k ≡ g k)
      → set (map f (numbers_from first count)) j (g (first + j)) ≡ map g (numbers_from first count)
  set-numbers f g first zero j within same = absurd (omega arith)
  set-numbers f g first (suc count) zero within same =
      let e : first + 0 ≡ first = omega arith in
      let later = map-numbers f g (suc first) count (λ k low high. same k (λ is. absurd (omega arith))) in
      λ i. g (e i) ∷ later i
  set-numbers f g first (suc count) (suc j) within same =
      let e : first + suc j ≡ suc first + j = omega arith in
      let here = same first (λ is. absurd (omega arith)) in
      let later = ap (λ n. set (map f (numbers_from (suc first) count)) j (g n)) e ∙ set-numbers f g (suc first) count j (omega arith) (λ k other. same k (λ is. other (sym e ∙ is))) in
      λ i. here i ∷ later i

  -- the element at one of the numbers
  pub get-numbers : (f : ℕ → X) (first count k : ℕ) → k < count → slice_get (map f (numbers_from first count)) k ≡ Some (f (first + k))
  get-numbers f first zero k within = absurd (omega arith)
  get-numbers f first (suc count) zero within = let e : first ≡ first + 0 = omega arith in ap (λ n. Some (f n)) e
  get-numbers f first (suc count) (suc k) within =
      let e : suc first + k ≡ first + suc k = omega arith in get-numbers f (suc first) count k (omega arith) ∙ ap (λ n. Some (f n)) e

  -- the same of the numbers from 0 on
  pub set-number : (f g : ℕ → X) (count j : ℕ) → j < count → ((k : ℕ) → (j ≡ k → ⊥) → f k ≡ g k) → set (map f (numbers_from 0 count)) j (g j) ≡ map g (numbers_from 0 count)
  set-number f g count j within same =
      let z : 0 + j ≡ j = omega arith in
      ap (λ n. set (map f (numbers_from 0 count)) j (g n)) (sym z) ∙ set-numbers f g 0 count j within (λ k other. same k (λ e. other (z ∙ e)))

  pub get-number : (f : ℕ → X) (count k : ℕ) → k < count → slice_get (map f (numbers_from 0 count)) k ≡ Some (f k)
  get-number f count k within = let z : 0 + k ≡ k = omega arith in get-numbers f 0 count k within ∙ ap (λ n. Some (f n)) z

  -- how many there are
  pub length-numbers : (f : ℕ → X) (first count : ℕ) → length (map f (numbers_from first count)) ≡ count
  length-numbers f first zero = refl
  length-numbers f first (suc count) = ap suc (length-numbers f (suc first) count)

  -- the same element at each of them
  pub replicate-numbers : (x : X) (first count : ℕ) → replicate count x ≡ map (λ _. x) (numbers_from first count)
  replicate-numbers x first zero = refl
  replicate-numbers x first (suc count) = ap (λ xs. x ∷ xs) (replicate-numbers x (suc first) count)

-- ---- a loop over the sessions

-- one session more
pids-more : (sessions : List ListedSession) (i : ℕ) (s : ListedSession) (part : ℕ) → i < length sessions → s ≡ get_or sessions i s
    → pids_of_part (take (i + 1) sessions) part ≡ pids_of_part (take i sessions) part ++ cond (s.part == part) (s.pid ∷ []) []
pids-more sessions i s part within is =
    ap (map (λ (t : ListedSession). t.pid)) (filter_more (is_of_part part) sessions i s within ∙ ap (λ (t : ListedSession). filter (is_of_part part) (take i sessions) ++ cond (is_of_part part t) (t ∷ []) []) (sym is))
    ∙ map-append (λ (t : ListedSession). t.pid) (filter (is_of_part part) (take i sessions)) (cond (is_of_part part s) (s ∷ []) [])
    ∙ ap (λ pids. pids_of_part (take i sessions) part ++ pids) (go (is_of_part part s))
  where
    go : (b : Bool) → map (λ (t : ListedSession). t.pid) (cond b (s ∷ []) []) ≡ cond b (s.pid ∷ []) []
    go true = refl
    go false = refl

-- there are so many parts
pub parts-length : {X : Type 0} (items : X → List Text) (parts : List X) (f : ℕ → List Text) (count : ℕ) → map items parts ≡ map f (numbers_from 0 count) → length parts ≡ count
parts-length items parts f count are = sym (length-map parts items) ∙ ap length are ∙ length-numbers f 0 count

-- a session is of one of the parts
pub within-at : (parts : ℕ) (sessions : List ListedSession) (i : ℕ) (s : ListedSession) → list_all (is_within parts) sessions ≡ true
    → i < length sessions → s ≡ get_or sessions i s → s.part < parts
within-at parts sessions i s all within is = ltb-true s.part parts (ap (is_within parts) is ∙ AllPass-from_list_all (is_within parts) sessions all i s within)

-- the pid goes to those of its part
pub parts-more : {X : Type 0} (items : X → List Text) (parts : List X) (sessions : List ListedSession) (count i : ℕ) (s : ListedSession) (old new : X)
    → i < length sessions → s ≡ get_or sessions i s → s.part < count
    → map items parts ≡ map (pids_of_part (take i sessions)) (numbers_from 0 count) → old ≡ get_or parts s.part old → items new ≡ items old ++ s.pid ∷ []
    → map items (set parts s.part new) ≡ map (pids_of_part (take (i + 1) sessions)) (numbers_from 0 count)
parts-more items parts sessions count i s old new within is part_within before at more =
    map-set items parts s.part new ∙ (λ k. set (before k) s.part (made k)) ∙ set-number (pids_of_part (take i sessions)) (pids_of_part (take (i + 1) sessions)) count s.part part_within others
  where
    size : length parts ≡ count
    size = parts-length items parts (pids_of_part (take i sessions)) count before

    there : items old ≡ pids_of_part (take i sessions) s.part
    there =
        ap items at ∙ sym (get_or-map items parts s.part old (items old) (omega (arith, size)))
        ∙ ap (λ xs. get_or xs s.part (items old)) before
        ∙ get_or_from_slice_get _ s.part (pids_of_part (take i sessions) s.part) (items old) (get-number (pids_of_part (take i sessions)) count s.part part_within)

    made : items new ≡ pids_of_part (take (i + 1) sessions) s.part
    made =
        more ∙ ap (λ pids. pids ++ s.pid ∷ []) there
        ∙ ap (λ b. pids_of_part (take i sessions) s.part ++ cond b (s.pid ∷ []) []) (sym (eq-eqb s.part s.part refl))
        ∙ sym (pids-more sessions i s s.part within is)

    others : (k : ℕ) → (s.part ≡ k → ⊥) → pids_of_part (take i sessions) k ≡ pids_of_part (take (i + 1) sessions) k
    others k other =
        sym (append-nil (pids_of_part (take i sessions) k))
        ∙ ap (λ b. pids_of_part (take i sessions) k ++ cond b (s.pid ∷ []) []) (sym (ne_eqb s.part k other))
        ∙ sym (pids-more sessions i s k within is)

-- the number of a part is noted under its first pid
pub place-noted : {X : Type 0} (items : X → List Text) (parts : List X) (i : ℕ) (part : X) (pid first : Text) (old new : List ℕ) → i < length parts → part ≡ get_or parts i part → first ≡ first_or_none (items part)
    → old ≡ places_where (λ k. option_map_or (begins_with pid) (slice_get (map items parts) k) false) i → new ≡ noted i (bytes_eq first pid) old
    → new ≡ places_where (λ k. option_map_or (begins_with pid) (slice_get (map items parts) k) false) (i + 1)
place-noted items parts i part pid first old new within is first_is before after =
    noted-at (λ (own : Option (List Text)). option_map_or (begins_with pid) own false) (map items parts) i (items part) old new (omega (arith, length-map parts items))
    (ap items is ∙ sym (get_or-map items parts i part (items part) within)) before (after ∙ ap (λ text. noted i (bytes_eq text pid) old) first_is)

-- ---- the part with the pids of a report

-- a search among those that pass a weaker test
find-filter : (test weaker : ℕ → Bool) (ns : List ℕ) → ((k : ℕ) → test k ≡ true → weaker k ≡ true) → find test (filter weaker ns) ≡ find test ns
find-filter test weaker [] so = refl
find-filter test weaker (n ∷ ns) so = go (test n) (weaker n) refl refl (find-filter test weaker ns so)
  where
    go : (t w : Bool) → test n ≡ t → weaker n ≡ w → find test (filter weaker ns) ≡ find test ns
        → find test (cond w (n ∷ filter weaker ns) (filter weaker ns)) ≡ cond t (Some n) (find test ns)
    go true true is held ih = rw is refl
    go true false is held ih = absurd (false≢true (sym held ∙ so n is))
    go false true is held ih = rw is ih
    go false false is held ih = ih

-- a search among the numbers of a list's elements
find-numbers : {X : Type 0} (p : X → Bool) (test : ℕ → Bool) (xs : List X) (first : ℕ) → ((k : ℕ) → test (first + k) ≡ option_map_or p (slice_get xs k) false)
    → find test (numbers_from first (length xs)) ≡ position_from p first xs
find-numbers p test [] first same = refl
find-numbers p test (x ∷ xs) first same =
    let here : test first ≡ p x = ap test (omega arith) ∙ same 0 in
    let next : suc first ≡ first + 1 = omega arith in
    let later = find-numbers p test xs (suc first) (λ k. ap test (omega arith) ∙ same (suc k)) ∙ ap (λ n. position_from p n xs) next in
    λ i. cond (here i) (Some first) (later i)

-- lists of the same pids begin with the same one
same-first : (own pids : List Text) → pointwise bytes_eq own pids ≡ true → begins_with (first_or_none pids) own ≡ true
same-first [] [] e = refl
same-first [] (p ∷ pids) e = cc
same-first (o ∷ own) [] e = cc
same-first (o ∷ own) (p ∷ pids) e = (and_parts (bytes_eq o p) (pointwise bytes_eq own pids) e).0

-- the first part with these pids stands among those that begin with the first of them
pub part-found : (parts : List (List Text)) (pids : List Text)
    → find (has_pids parts pids) (places_by_first parts (first_or_none pids)) ≡ position_from (λ own. pointwise bytes_eq own pids) 0 parts
part-found parts pids =
    find-filter (has_pids parts pids) (λ part. option_map_or (begins_with (first_or_none pids)) (slice_get parts part) false) (numbers_from 0 (length parts))
    (λ k. so (slice_get parts k))
    ∙ find-numbers (λ own. pointwise bytes_eq own pids) (has_pids parts pids) parts 0 (λ k. let e : 0 + k ≡ k = omega arith in ap (has_pids parts pids) e)
  where
    so : (o : Option (List Text)) → option_map_or (λ own. pointwise bytes_eq own pids) o false ≡ true → option_map_or (begins_with (first_or_none pids)) o false ≡ true
    so None e = e
    so (Some own) e = same-first own pids e

-- the same by an index of the parts
pub part-of-places : (parts : List (List Text)) (pids : List Text) (first : Text) (items : List ℕ) (index : Text → List ℕ) → ((pid : Text) → index pid ≡ places_by_first parts pid)
    → first ≡ first_or_none pids → items ≡ index first → find (has_pids parts pids) items ≡ part_of parts pids
part-of-places parts pids first items index known first_is items_are =
    ap (find (has_pids parts pids)) (items_are ∙ known first ∙ ap (places_by_first parts) first_is) ∙ part-found parts pids

-- an element that passes is found
pub find-here : (test : ℕ → Bool) (xs : List ℕ) (i : ℕ) (all : Option ℕ) → i < length xs → test (get_or xs i 0) ≡ true → find test (drop i xs) ≡ find test xs → find test xs ≡ all → Some (get_or xs i 0) ≡ all
find-here test xs i all within passes before after =
    ap (λ b. cond b (Some (get_or xs i 0)) (find test (drop (i + 1) xs))) (sym passes) ∙ sym (at_drop_more (find test) xs i 0 within) ∙ before ∙ after

-- none is found
pub find-nowhere : (test : ℕ → Bool) (xs : List ℕ) (i : ℕ) (all : Option ℕ) → length xs ≤ i → find test (drop i xs) ≡ find test xs → find test xs ≡ all → None ≡ all
find-nowhere test xs i all past before after = ap (find test) (sym (drop_all i xs past)) ∙ before ∙ after
