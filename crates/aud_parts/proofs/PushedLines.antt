-- Lines that are added one after the other.
use Rattle.std.proofs.Common.{◌≡◌, ◌≤◌, ◌+◌, ◌-◌, ℕ, zero, suc, true, false, cond, List, [], ◌∷◌, ◌++◌, length, map, drop, Option, Some, None, slice_get, refl, sym, ap, ◌∙◌, arith, true≢false, append_assoc, append-nil, length-append}
use Rattle.std.specs.Option.{option_map_or}
use Rattle.std.proofs.lemmas.List.{length-map, map-append}
use Rattle.aud_base.specs.Lists.{numbers_from}
use Rattle.aud_base.proofs.Lists.{drop_at}
use Rattle.aud_base.proofs.Numbers.{numbers_from-more}
use Rattle.aud_tap.specs.declared.records.NodeRec.{NodeRec}
use Rattle.aud_parts.specs.Private.FoundRecords.{comes_from, comes_next, found}

-- ---- the next lines

module _ (line : ℕ → ℕ) where
  -- with one more of those after the first
  pub next-more : (start old new : List ℕ) (n : ℕ) → old ≡ start ++ map line (map suc (numbers_from 0 n)) → new ≡ old ++ line (n + 1) ∷ []
      → new ≡ start ++ map line (map suc (numbers_from 0 (n + 1)))
  next-more start old new n before more =
      let all = map line (map suc (numbers_from 0 n)) in
      let one : n + 1 ≡ suc n = omega arith in
      more ∙ ap (λ ls. ls ++ line (n + 1) ∷ []) before ∙ append_assoc start all (line (n + 1) ∷ [])
      ∙ ap (λ k. start ++ (all ++ line k ∷ [])) one
      ∙ ap (λ ls. start ++ ls)
      (sym (ap (map line) (ap (map suc) (numbers_from-more n) ∙ map-append suc (numbers_from 0 n) (n ∷ [])) ∙ map-append line (map suc (numbers_from 0 n)) (suc n ∷ [])))

  -- ---- those of the records that are found

  found-no_part : (place : ℕ) (recs : List NodeRec) → found place recs [] ≡ []
  found-no_part place [] = refl
  found-no_part place (rec ∷ recs) = refl

  drop-past : {X : Type 0} (xs : List X) (n : ℕ) → slice_get xs n ≡ None → drop n xs ≡ []
  drop-past [] zero e = refl
  drop-past [] (suc n) e = refl
  drop-past (x ∷ xs) zero e = cc
  drop-past (x ∷ xs) (suc n) e = drop-past xs n e

  -- the record is the one that the part's next comes from
  pub found-here : (recs part : List NodeRec) (place number : ℕ) (rec : NodeRec) → slice_get recs place ≡ Some rec → comes_next part number rec ≡ true
      → found place (drop place recs) (drop number part) ≡ place ∷ found (suc place) (drop (suc place) recs) (drop (suc number) part)
  found-here recs part place number rec at e = ap (λ rs. found place rs (drop number part)) (drop_at recs place rec at) ∙ go (slice_get part number) refl e
    where
      rest : List NodeRec
      rest = drop (suc place) recs

      go : (o : Option NodeRec) → slice_get part number ≡ o → option_map_or (λ own. comes_from own rec) o false ≡ true
          → found place (rec ∷ rest) (drop number part) ≡ place ∷ found (suc place) rest (drop (suc number) part)
      go None is e = absurd (true≢false (sym e))
      go (Some own) is e =
          ap (found place (rec ∷ rest)) (drop_at part number own is)
          ∙ ap (λ b. cond b (place ∷ found (suc place) rest (drop (suc number) part)) (found (suc place) rest (own ∷ drop (suc number) part))) e

  -- it isn't
  pub found-later : (recs part : List NodeRec) (place number : ℕ) (rec : NodeRec) → slice_get recs place ≡ Some rec → comes_next part number rec ≡ false
      → found place (drop place recs) (drop number part) ≡ found (suc place) (drop (suc place) recs) (drop number part)
  found-later recs part place number rec at e = ap (λ rs. found place rs (drop number part)) (drop_at recs place rec at) ∙ go (slice_get part number) refl e
    where
      rest : List NodeRec
      rest = drop (suc place) recs

      go : (o : Option NodeRec) → slice_get part number ≡ o → option_map_or (λ own. comes_from own rec) o false ≡ false
          → found place (rec ∷ rest) (drop number part) ≡ found (suc place) rest (drop number part)
      go None is e = ap (found place (rec ∷ rest)) (drop-past part number is) ∙ sym (ap (found (suc place) rest) (drop-past part number is) ∙ found-no_part (suc place) rest)
      go (Some own) is e =
          ap (found place (rec ∷ rest)) (drop_at part number own is)
          ∙ ap (λ b. cond b (place ∷ found (suc place) rest (drop (suc number) part)) (found (suc place) rest (own ∷ drop (suc number) part))) e
          ∙ sym (ap (found (suc place) rest) (drop_at part number own is))

  abbrev pub lines_found : List NodeRec → List NodeRec → ℕ → ℕ → List ℕ
  lines_found recs part place number = map line (map suc (found place (drop place recs) (drop number part)))

  -- with its line
  pub push-here : (recs part : List NodeRec) (place number next : ℕ) (rec : NodeRec) (old new all : List ℕ) → slice_get recs place ≡ Some rec → comes_next part number rec ≡ true
      → next ≡ number + 1 → old ++ lines_found recs part place number ≡ all → new ≡ old ++ line (place + 1) ∷ []
      → new ++ lines_found recs part (place + 1) next ≡ all
  push-here recs part place number next rec old new all at e grown before more =
      let one : place + 1 ≡ suc place = omega arith in
      let two : next ≡ suc number = omega (arith, grown) in
      ap (λ ls. ls ++ lines_found recs part (place + 1) next) more
      ∙ append_assoc old (line (place + 1) ∷ []) (lines_found recs part (place + 1) next)
      ∙ ap (λ k. old ++ line k ∷ lines_found recs part k next) one
      ∙ ap (λ k. old ++ line (suc place) ∷ lines_found recs part (suc place) k) two
      ∙ ap (λ ns. old ++ map line (map suc ns)) (sym (found-here recs part place number rec at e))
      ∙ before

  -- without
  pub push-later : (recs part : List NodeRec) (place number next : ℕ) (rec : NodeRec) (old new all : List ℕ) → slice_get recs place ≡ Some rec → comes_next part number rec ≡ false
      → next ≡ number → old ++ lines_found recs part place number ≡ all → new ≡ old
      → new ++ lines_found recs part (place + 1) next ≡ all
  push-later recs part place number next rec old new all at e same before kept =
      let one : place + 1 ≡ suc place = omega arith in
      ap (λ ls. ls ++ lines_found recs part (place + 1) next) kept
      ∙ ap (λ k. old ++ lines_found recs part (place + 1) k) same
      ∙ ap (λ k. old ++ lines_found recs part k number) one
      ∙ ap (λ ns. old ++ map line (map suc ns)) (sym (found-later recs part place number rec at e))
      ∙ before

  -- there is one more of the part's
  pub here-within : (part : List NodeRec) (number : ℕ) (rec : NodeRec) → comes_next part number rec ≡ true → number + 1 ≤ length part
  here-within part number rec e = go part number e
    where
      go : (xs : List NodeRec) (n : ℕ) → option_map_or (λ own. comes_from own rec) (slice_get xs n) false ≡ true → n + 1 ≤ length xs
      go [] n e = absurd (true≢false (sym e))
      go (x ∷ xs) zero e = omega arith
      go (x ∷ xs) (suc n) e = let rest = go xs n e in omega (arith, rest)

  -- where as many were found as the part has, no others are added
  pub push-all : (recs part : List NodeRec) (place number : ℕ) (start now new places : List ℕ)
      (other : ℕ → ℕ) → length recs ≤ place → now ++ lines_found recs part place number ≡ start ++ map line (map suc (found 0 recs part)) → length now ≡ length start + number
      → found 0 recs part ≡ places → length places ≡ length part → new ≡ now ++ map other (map suc (numbers_from 0 (length part - number)))
      → new ≡ start ++ map line (map suc places)
  push-all recs part place number start now new places other past all count is whole more =
      let here : now ≡ start ++ map line (map suc places) =
      sym (append-nil now)
      ∙ ap (λ rs. now ++ map line (map suc (found place rs (drop number part)))) (sym (drop-end recs place past))
      ∙ all ∙ ap (λ ns. start ++ map line (map suc ns)) is in
      let a = ap length here ∙ length-append start (map line (map suc places)) in
      let b = length-map (map suc places) line in
      let d = length-map places suc in
      let none : length part - number ≡ 0 = omega (arith, a, b, d, count, whole) in
      more ∙ ap (λ k. now ++ map other (map suc (numbers_from 0 k))) none ∙ append-nil now ∙ here
    where
      drop-end : {X : Type 0} (xs : List X) (n : ℕ) → length xs ≤ n → drop n xs ≡ []
      drop-end [] zero h = refl
      drop-end [] (suc n) h = refl
      drop-end (x ∷ xs) zero h = absurd (omega (arith, h))
      drop-end (x ∷ xs) (suc n) h = drop-end xs n (omega (arith, h))
