-- Consecutive records of a log: one by its number, those between two numbers, and the cursor along them.
use Rattle.std.proofs.Common.{◌≡◌, ◌<◌, ◌≤◌, ◌+◌, ◌-◌, ℕ, zero, suc, List, [], ◌∷◌, ◌++◌, length, take, drop, min, Option, Some, None, slice_get, refl, sym, ap, ◌∙◌, arith}
use Rattle.std.proofs.lemmas.List.{length-take, length-drop, drop-drop, drop-take, take-take, take_rest, take_all, drop_all}
use Rattle.std.proofs.lemmas.Option.{slice_get_within}
use Rattle.aud_tap.specs.declared.records.StreamRec.{StreamRec}
use Rattle.aud_tap.specs.declared.records.NodeRec.{NodeRec}
pub use Rattle.aud_base.proofs.Lists.{between-more, between-none}
use Rattle.aud_base.proofs.Lists.{element_at, slice_get-take, slice_get-drop}
use Rattle.aud_node.specs.Lists.{between}
use Rattle.aud_node.specs.Cursors.{next_cursor, cursor_past, cursor_at}

module _ {X : Type 0} where
  -- where there is none, no number is between
  pub between-nil : (xs : List X) (i to : ℕ) → to ≤ length xs → between xs i to ≡ [] → to ≤ i
  between-nil xs i to h e = omega (arith, simp (length-take, length-drop) at (ap length e))

  -- an element between two numbers
  pub slice_get-between : (xs : List X) (from to i j : ℕ) → i ≡ from + j → i < to → slice_get (between xs from to) j ≡ slice_get xs i
  slice_get-between xs from to i j e h = slice_get-take (to - from) (drop from xs) j (omega arith) ∙ slice_get-drop from xs j i e

  -- there are no elements after the last one
  between-clipped : (xs : List X) (a b from to : ℕ) → to ≡ min b (length xs) → from ≡ min a to → between xs from to ≡ between xs a b
  between-clipped xs a b from to last first = grind (arith, last, first, take_rest xs a, take_all (b - a) (drop a xs), drop_all a xs, drop_all from xs, length-drop a xs)

  -- the elements between two numbers of those between two others
  between-within : (xs : List X) (f t a b : ℕ) → a ≤ b → b ≤ t - f → between xs (f + a) (f + b) ≡ between (between xs f t) a b
  between-within xs f t a b ab bt =
      let count : f + b - (f + a) ≡ b - a = omega arith in
      let all : a + (t - f - a) ≡ t - f = omega (arith, ab, bt) in
      ap (λ n. take n (drop (f + a) xs)) count
      ∙ ap (take (b - a)) (sym (drop-drop a f xs))
      ∙ sym (take-take (b - a) (t - f - a) (drop a (drop f xs)) (omega (arith, bt)))
      ∙ ap (take (b - a)) (sym (drop-take a (t - f - a) (drop f xs)))
      ∙ ap (λ n. take (b - a) (drop a (take n (drop f xs)))) all

  -- the same where there may be fewer
  pub between-between : (xs : List X) (f t a b from to : ℕ) → t ≤ length xs → to ≡ min b (t - f) → from ≡ min a to → between xs (f + from) (f + to) ≡ between (between xs f t) a b
  between-between xs f t a b from to within last first =
      let count : length (between xs f t) ≡ t - f = omega (arith, length-take (t - f) (drop f xs), length-drop f xs) in
      between-within xs f t from to (omega (arith, first)) (omega (arith, last))
      ∙ between-clipped (between xs f t) a b from to (last ∙ ap (min b) (sym count)) first

  -- one element more at the end of those between two numbers
  pub between-push : (xs : List X) (from at : ℕ) (x : X) → from ≤ at → slice_get xs at ≡ Some x → between xs from (suc at) ≡ between xs from at ++ x ∷ []
  between-push xs from at x h here = go (at - from) from (omega arith)
    where
      go : (d m : ℕ) → m + d ≡ at → between xs m (suc at) ≡ between xs m at ++ x ∷ []
      go zero m e = grind (arith, between-more xs m (suc at) x, between-none xs (suc m) (suc at), between-none xs m at)
      go (suc d) m e =
          let (y, there) = element_at xs m (omega (arith, e, slice_get_within xs at x here)) in
          grind (arith, go d (suc m), between-more xs m (suc at) y, between-more xs m at y)

-- the cursor never goes down
next_cursor-rises : (stream : List StreamRec) (i : ℕ) (rec : NodeRec) (cursor : ℕ) → (i ≡ 0 → cursor ≡ 0) → cursor ≤ next_cursor stream i rec cursor
next_cursor-rises stream i rec cursor first = grind (arith, first)

-- a record leaves the cursor no lower than it was
cursor_at-next : (stream : List StreamRec) (log : List NodeRec) (i : ℕ) → cursor_at stream log i ≤ cursor_at stream log (suc i)
cursor_at-next stream log i = go (slice_get log i)
  where
    start : (i : ℕ) → i ≡ 0 → cursor_at stream log i ≡ 0
    start zero e = refl
    start (suc i) e = absurd (omega arith)

    go : (o : Option NodeRec) → cursor_at stream log i ≤ cursor_past stream i o (cursor_at stream log i)
    go None = omega arith
    go (Some rec) = next_cursor-rises stream i rec (cursor_at stream log i) (start i)

-- what doesn't fall from one number to the next doesn't fall at all
rises : (f : ℕ → ℕ) → ((n : ℕ) → f n ≤ f (suc n)) → (i j : ℕ) → i ≤ j → f i ≤ f j
rises f up i zero h = grind arith
rises f up i (suc j) h = grind (arith, rises f up i j, up j)

-- the cursor after more records isn't lower
pub cursor_at-rises : (stream : List StreamRec) (log : List NodeRec) (i j : ℕ) → i ≤ j → cursor_at stream log i ≤ cursor_at stream log j
cursor_at-rises stream log = rises (cursor_at stream log) (cursor_at-next stream log)
