-- What holds of each cause of a list, by the parts of which it is made.
use Rattle.std.proofs.Common.{◌≡◌, ◌++◌, Bool, true, false, List, [], ◌∷◌, cond, flat_map, Option, Some, None, option_map, refl, ◌∙◌}
use Rattle.std.specs.Prelude.{option_to_list}
use Rattle.std.specs.Cmp.Derive.{both_true}
use Rattle.std.specs.List.{list_all}
use Rattle.std.specs.Option.{option_and_then, option_or}
use Rattle.std.proofs.lemmas.List.Folds.{list_all-append}
use Rattle.aud_causes.specs.declared.cause.Cause.{Cause}
use Rattle.aud_causes.specs.Delivery.{cause_if, held}

module _ (p : Cause → Bool) where
  -- ---- of a list

  pub of_both : (xs ys : List Cause) → list_all p xs ≡ true → list_all p ys ≡ true → list_all p (xs ++ ys) ≡ true
  of_both xs ys left right = list_all-append p xs ys ∙ both_true left right

  pub of_each : {X : Type 0} (f : X → List Cause) (xs : List X) → ((x : X) → list_all p (f x) ≡ true) → list_all p (flat_map f xs) ≡ true
  of_each f [] h = refl
  of_each f (x ∷ xs) h = of_both (f x) (flat_map f xs) (h x) (of_each f xs h)

  pub of_either : (b : Bool) (xs ys : List Cause) → list_all p xs ≡ true → list_all p ys ≡ true → list_all p (cond b xs ys) ≡ true
  of_either true xs ys h k = h
  of_either false xs ys h k = k

  -- the first of the causes that hold, and the others
  pub of_held : (o : Option Cause) (os : List (Option Cause)) → list_all p (option_to_list o) ≡ true → list_all p (held os) ≡ true → list_all p (held (o ∷ os)) ≡ true
  of_held o os one others = of_both (option_to_list o) (held os) one others

  -- ---- of an Option

  pub of_one : (cause : Cause) → p cause ≡ true → list_all p (option_to_list (Some cause)) ≡ true
  of_one cause h = both_true h refl

  pub of_if : (b : Bool) (cause : Cause) → p cause ≡ true → list_all p (option_to_list (cause_if b cause)) ≡ true
  of_if true cause h = both_true h refl
  of_if false cause h = refl

  pub of_choice : (b : Bool) (one other : Option Cause) → list_all p (option_to_list one) ≡ true → list_all p (option_to_list other) ≡ true
      → list_all p (option_to_list (cond b one other)) ≡ true
  of_choice true one other h k = h
  of_choice false one other h k = k

  pub of_or : (one other : Option Cause) → list_all p (option_to_list one) ≡ true → list_all p (option_to_list other) ≡ true
      → list_all p (option_to_list (option_or one other)) ≡ true
  of_or None other h k = k
  of_or (Some cause) other h k = h

  pub of_then : {X : Type 0} (f : X → Option Cause) (o : Option X) → ((x : X) → list_all p (option_to_list (f x)) ≡ true)
      → list_all p (option_to_list (option_and_then f o)) ≡ true
  of_then f None h = refl
  of_then f (Some x) h = h x

  pub of_map : {X : Type 0} (f : X → Cause) (o : Option X) → ((x : X) → p (f x) ≡ true) → list_all p (option_to_list (option_map f o)) ≡ true
  of_map f None h = refl
  of_map f (Some x) h = both_true (h x) refl

  pub ruleset parts = (of_held, of_one, of_if, of_choice, of_or, of_then, of_map)

  -- one cause, or another
  pub of_two : (b : Bool) (one other : Cause) → p one ≡ true → p other ≡ true → p (cond b one other) ≡ true
  of_two true one other h k = h
  of_two false one other h k = k
