-- Elements and parts of lists; cursors by the records before.
use Rattle.std.proofs.Common.{◌≡◌, ◌≤◌, ◌+◌, ◌-◌, ℕ, zero, suc, Bool, true, false, cond, List, [], ◌∷◌, ◌++◌, length, take, drop, Some, slice_get, refl, sym, ap, ◌∙◌, arith, length-append}
use Rattle.std.proofs.lemmas.List.{take-append-drop, length-take-le}
use Rattle.std.proofs.lemmas.Option.{slice_get_within}
use Rattle.std.proofs.Math.Seq.{take-append_seam, drop-append-add, take-append-add}
use Rattle.aud_tap.specs.declared.records.StreamRec.{StreamRec}
use Rattle.aud_tap.specs.declared.records.NodeRec.{NodeRec}
use Rattle.aud_tap.specs.declared.records.NodeRec.TheVariants.{Start, Take, Takes, Opened, Join, Leave, Broke, Back, Gone}
use Rattle.aud_base.specs.Lists.{between}
use Rattle.aud_base.proofs.Lists.{element_at, drop_at}
use Rattle.aud_node.specs.Cursors.{next_cursor, cursor_past, cursor_at}
use Rattle.aud_upgrade.specs.Private.Told.{is_taking, told, told_at, cursor_over}
use Rattle.aud_upgrade.proofs.TurnLemmas.{told-append}

module _ {X : Type 0} where
  -- a list, parted at an element
  pub parts_at : (xs : List X) (i : ℕ) (x : X) → slice_get xs i ≡ Some x → xs ≡ take i xs ++ x ∷ drop (suc i) xs
  parts_at xs i x at = sym (take-append-drop i xs) ∙ ap (λ ys. take i xs ++ ys) (drop_at xs i x at)

  -- the front before it is as long as its index says
  pub front-length : (xs : List X) (i : ℕ) (x : X) → slice_get xs i ≡ Some x → length (take i xs) ≡ i
  front-length xs i x at = let within = slice_get_within xs i x at in length-take-le i xs (omega (arith, within))

  -- one element more
  pub take-suc : (xs : List X) (i : ℕ) (x : X) → slice_get xs i ≡ Some x → take (suc i) xs ≡ take i xs ++ x ∷ []
  take-suc xs i x at =
      let n : length (take i xs) + 1 ≡ suc i = let same = front-length xs i x at in omega (arith, same) in
      ap (λ n. take n xs) (sym n) ∙ ap (take (length (take i xs) + 1)) (parts_at xs i x at) ∙ take-append-add (take i xs) (x ∷ drop (suc i) xs) 1

  -- the element after a front
  pub at_seam : (front : List X) (x : X) (back : List X) → slice_get (front ++ x ∷ back) (length front) ≡ Some x
  at_seam [] x back = refl
  at_seam (y ∷ front) x back = at_seam front x back

  -- what stands between a front with one element more and a back
  pub between_seams : (front : List X) (x : X) (middle back : List X) → between (front ++ x ∷ (middle ++ back)) (suc (length front)) (length front + suc (length middle)) ≡ middle
  between_seams front x middle back =
      let more : suc (length front) ≡ length front + 1 = omega arith in
      let count : (length front + suc (length middle)) - suc (length front) ≡ length middle = omega arith in
      ap (λ n. take n (drop (suc (length front)) (front ++ x ∷ (middle ++ back)))) count
      ∙ ap (λ n. take (length middle) (drop n (front ++ x ∷ (middle ++ back)))) more
      ∙ ap (take (length middle)) (drop-append-add front (x ∷ (middle ++ back)) 1)
      ∙ take-append_seam middle back

module _ (stream : List StreamRec) where
  -- the cursor after a record that isn't the first doesn't depend on its number
  pub later : (n : ℕ) (rec : NodeRec) (cursor : ℕ) → next_cursor stream (suc n) rec cursor ≡ next_cursor stream 1 rec cursor
  later n (Start off) cursor = refl
  later n (Take off) cursor = refl
  later n (Takes off) cursor = refl
  later n (Opened other sid nsp) cursor = refl
  later n (Join other room) cursor = refl
  later n (Leave other room) cursor = refl
  later n (Broke other turn) cursor = refl
  later n (Back other turn) cursor = refl
  later n (Gone other) cursor = refl

  over-last : (cursor : ℕ) (xs : List NodeRec) (x : NodeRec) → cursor_over stream 1 cursor (xs ++ x ∷ []) ≡ next_cursor stream 1 x (cursor_over stream 1 cursor xs)
  over-last cursor [] x = refl
  over-last cursor (y ∷ xs) x = over-last (next_cursor stream 1 y cursor) xs x

  -- the cursor after one record more
  over-more : (xs : List NodeRec) (x : NodeRec) → cursor_over stream 0 0 (xs ++ x ∷ []) ≡ next_cursor stream (length xs) x (cursor_over stream 0 0 xs)
  over-more [] x = refl
  over-more (y ∷ xs) x = over-last (next_cursor stream 0 y 0) xs x ∙ sym (later (length xs) x (cursor_over stream 0 0 (y ∷ xs)))

  -- the cursor after the first records
  pub cursor_at-over : (log : List NodeRec) (count : ℕ) → count ≤ length log → cursor_at stream log count ≡ cursor_over stream 0 0 (take count log)
  cursor_at-over log zero h = refl
  cursor_at-over log (suc count) h =
      let (x, at) = element_at log count (omega (arith, h)) in
      let ih = cursor_at-over log count (omega (arith, h)) in
      ap (λ o. cursor_past stream count o (cursor_at stream log count)) at
      ∙ ap (next_cursor stream count x) ih
      ∙ ap (λ n. next_cursor stream n x (cursor_over stream 0 0 (take count log))) (sym (front-length log count x at))
      ∙ sym (over-more (take count log) x)
      ∙ ap (cursor_over stream 0 0) (sym (take-suc log count x at))

  -- the cursor after a front
  pub cursor_at-front : (log front back : List NodeRec) (count : ℕ) → log ≡ front ++ back → count ≡ length front → cursor_at stream log count ≡ cursor_over stream 0 0 front
  cursor_at-front log front back count is n =
      let long : length log ≡ length front + length back = ap length is ∙ length-append front back in
      cursor_at-over log count (omega (arith, long, n))
      ∙ ap (cursor_over stream 0 0) (ap (λ n. take n log) n ∙ ap (take (length front)) is ∙ take-append_seam front back)

  -- how many are told
  pub count_more : (number cursor : ℕ) (recs : List NodeRec) (i j : ℕ) → i ≤ j → length (told stream number cursor (take i recs)) ≤ length (told stream number cursor (take j recs))
  count_more number cursor recs zero j h = omega arith
  count_more number cursor recs (suc i) zero h = absurd (omega (arith, h))
  count_more number cursor [] (suc i) (suc j) h = omega arith
  count_more number cursor (rec ∷ recs) (suc i) (suc j) h = go (is_taking rec) (count_more 1 (next_cursor stream number rec cursor) recs i j (omega (arith, h)))
    where
      after : ℕ
      after = next_cursor stream number rec cursor

      go : (b : Bool) → length (told stream 1 after (take i recs)) ≤ length (told stream 1 after (take j recs))
          → length (cond b (told stream 1 after (take i recs)) (told_at stream number cursor rec ∷ told stream 1 after (take i recs)))
          ≤ length (cond b (told stream 1 after (take j recs)) (told_at stream number cursor rec ∷ told stream 1 after (take j recs)))
      go true ih = ih
      go false ih = omega (arith, ih)

  -- with a record that takes nothing, one more is told
  pub count_one : (log : List NodeRec) (i : ℕ) (rec : NodeRec) → slice_get log i ≡ Some rec → is_taking rec ≡ false
      → length (told stream 0 0 (take (suc i) log)) ≡ suc (length (told stream 0 0 (take i log)))
  count_one log i rec at quiet =
      let front = take i log in
      let all : told stream 0 0 (take (suc i) log) ≡ told stream 0 0 front ++ record { rec = rec; cursor = cursor_over stream 0 0 (front ++ rec ∷ []) } ∷ [] =
      ap (told stream 0 0) (take-suc log i rec at) ∙ told-append stream 0 0 front rec [] quiet in
      let long : length (told stream 0 0 (take (suc i) log)) ≡ length (told stream 0 0 front) + 1 =
      ap length all ∙ length-append (told stream 0 0 front) (record { rec = rec; cursor = cursor_over stream 0 0 (front ++ rec ∷ []) } ∷ []) in
      omega (arith, long)
