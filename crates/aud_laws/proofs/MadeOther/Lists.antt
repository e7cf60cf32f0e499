-- Words about lists that the proofs on entries made `other` share.
use Rattle.std.proofs.Common.{◌≡◌, Bool, true, false, ◌||◌, List, [], ◌∷◌, ◌++◌, filter, refl, arith}
use Rattle.std.specs.List.{All, list_any}
use Rattle.std.proofs.lemmas.Bool.{false≢true, or_left, or_right}
use Rattle.std.proofs.lemmas.List.Elements.{All-head, All-tail, All-nil, All-cons}

module _ {X : Type 0} where
  -- a test that passes wherever another does passes of some element where that one does
  pub any-wider : (test wider : X → Bool) → ((x : X) → test x ≡ true → wider x ≡ true) → (xs : List X) → list_any test xs ≡ true → list_any wider xs ≡ true
  any-wider test wider more [] is = absurd (false≢true is)
  any-wider test wider more (x ∷ xs) is = go (test x) refl is (any-wider test wider more xs)
    where
      go : (b : Bool) → test x ≡ b → (b || list_any test xs) ≡ true → (list_any test xs ≡ true → list_any wider xs ≡ true) → (wider x || list_any wider xs) ≡ true
      go true here h ih = or_left (wider x) (list_any wider xs) (more x here)
      go false none h ih = or_right (wider x) (list_any wider xs) (ih h)

  -- what some element passes of those that are kept, some passes of all
  pub any-of_kept : (test keep : X → Bool) (xs : List X) → list_any test (filter keep xs) ≡ true → list_any test xs ≡ true
  any-of_kept test keep [] is = is
  any-of_kept test keep (x ∷ xs) is = let ih = any-of_kept test keep xs in grind (arith, is, ih)

  -- what holds of all holds of those in front of one, and of that one
  pub all-parts : (P : X → Type 0) (before : List X) (x : X) (after : List X) → All P (before ++ x ∷ after) → All P before × P x
  all-parts P [] x after all = (All-nil P, All-head P x after all)
  all-parts P (y ∷ before) x after all =
      let rest = all-parts P before x after (All-tail P y (before ++ x ∷ after) all) in
      (All-cons P y before (All-head P y (before ++ x ∷ after) all) rest.0, rest.1)
