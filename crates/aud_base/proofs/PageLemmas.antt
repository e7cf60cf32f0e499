-- A list kept in pages.
use Rattle.std.proofs.Common.{◌≡◌, ◌+◌, ◌*◌, ℕ, zero, suc, List, [], ◌∷◌, ◌++◌, length, Some, slice_get, refl, ap, ◌∙◌, arith}
use Rattle.std.specs.Global.{Vec}
use Rattle.std.specs.List.{flat_map}
use Rattle.std.proofs.lemmas.List.Elements.{All-tail}
use Rattle.std.proofs.lemmas.List.{length-append, append_assoc}
use Rattle.std.proofs.lemmas.Option.{none-some}
use Rattle.aud_base.specs.Private.Pages.{are_full, elements}

module _ {X : Type 0} where
  -- an element of the first list is that of both together
  get-left : (xs ys : List X) (i : ℕ) (x : X) → slice_get xs i ≡ Some x → slice_get (xs ++ ys) i ≡ Some x
  get-left [] ys i x at = absurd (none-some x at)
  get-left (y ∷ xs) ys zero x at = at
  get-left (y ∷ xs) ys (suc i) x at = get-left xs ys i x at

  -- after the first list come the elements of the second
  get-right : (xs ys : List X) (n i j : ℕ) → length xs ≡ n → i ≡ n + j → slice_get (xs ++ ys) i ≡ slice_get ys j
  get-right [] ys n i j len e = let same : i ≡ j = omega (arith, len, e) in ap (slice_get ys) same
  get-right (x ∷ xs) ys zero i j len e = absurd (omega (arith, len))
  get-right (x ∷ xs) ys (suc n) zero j len e = absurd (omega (arith, e))
  get-right (x ∷ xs) ys (suc n) (suc i) j len e = get-right xs ys n i j (omega (arith, len)) (omega (arith, e))

  -- the first of full pages is full
  first-full : (page : Vec X) (pages : List (Vec X)) → are_full (page ∷ pages) → length page.items ≡ 4096
  first-full page pages full = full 0 page (omega arith)

  -- so are the others
  rest-full : (page : Vec X) (pages : List (Vec X)) → are_full (page ∷ pages) → are_full pages
  rest-full page pages full = All-tail (λ (p : Vec X). length p.items ≡ 4096) page pages full

  -- the elements of one page, and then those of the others
  elements-cons : (page : Vec X) (pages : List (Vec X)) (last : List X) → elements (page ∷ pages) last ≡ page.items ++ elements pages last
  elements-cons page pages last = append_assoc page.items (flat_map (λ (p : Vec X). p.items) pages) last

  -- an element of a full page, by the page's number and its own there
  pub in-full : (full : List (Vec X)) (last : List X) (k j : ℕ) (page : Vec X) (x : X) → are_full full → slice_get full k ≡ Some page → slice_get page.items j ≡ Some x
      → slice_get (elements full last) (k * 4096 + j) ≡ Some x
  in-full [] last k j page x full there at = absurd (none-some page there)
  in-full (p ∷ ps) last zero j page x full there at = grind (arith, elements-cons p ps last, there, at, get-left p.items (elements ps last) j x)
  in-full (p ∷ ps) last (suc k) j page x full there at =
      ap (λ xs. slice_get xs (suc k * 4096 + j)) (elements-cons p ps last)
      ∙ get-right p.items (elements ps last) 4096 (suc k * 4096 + j) (k * 4096 + j) (first-full p ps full) (omega arith)
      ∙ in-full ps last k j page x (rest-full p ps full) there at

  -- an element after the full pages
  pub in-last : (full : List (Vec X)) (last : List X) (i j : ℕ) → are_full full → i ≡ length full * 4096 + j → slice_get (elements full last) i ≡ slice_get last j
  in-last [] last i j full e = let same : i ≡ j = omega (arith, e) in ap (slice_get last) same
  in-last (p ∷ ps) last i j full e =
      ap (λ xs. slice_get xs i) (elements-cons p ps last)
      ∙ get-right p.items (elements ps last) 4096 i (length ps * 4096 + j) (first-full p ps full) (omega (arith, e))
      ∙ in-last ps last (length ps * 4096 + j) j (rest-full p ps full) refl

  -- the full pages have 4,096 elements each
  pub length-elements : (full : List (Vec X)) (last : List X) → are_full full → length (elements full last) ≡ length full * 4096 + length last
  length-elements [] last full = omega arith
  length-elements (p ∷ ps) last full =
      let first = first-full p ps full in
      let others = length-elements ps last (rest-full p ps full) in
      ap length (elements-cons p ps last) ∙ length-append p.items (elements ps last) ∙ omega (arith, first, others)
