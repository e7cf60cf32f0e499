-- Two lists of positions, and where they part.
use Rattle.std.proofs.Common.{◌≡◌, ◌<◌, ◌+◌, ℕ, zero, suc, Bool, true, false, cond, not, ◌||◌, List, [], ◌∷◌, length, take, drop, Option, Some, None, MatchOption, slice_get, refl, sym, ap, ◌∙◌, nat_eq, nat_lt, arith, add-one, length-take}
use Rattle.std.specs.List.{position_or_len}
use Rattle.std.proofs.lemmas.Bool.{lt-ltb}
use Rattle.std.proofs.lemmas.Bool.Decides.{nat_tests}
use Rattle.std.proofs.lemmas.Option.{none-some, same_Some, get_or_from_slice_get, slice_get-get_or, slice_get_within}
use Rattle.std.proofs.lemmas.List.{take_all}
use Rattle.std.proofs.lemmas.List.Quantifiers.{position-Some}
use Rattle.aud_base.proofs.Lists.{slice_get-take, slice_get-drop}
use Rattle.aud_merge.specs.ByTurns.{IsPrefixOf}
use Rattle.aud_check.specs.declared.difference.Difference.{Difference}
use Rattle.aud_check.specs.declared.difference.Difference.TheVariants.{Extra}
use Rattle.aud_check.specs.Difference.{IsAscending, IsDifference, agreed, difference, difference_by, difference_past, difference_there, displaced, has_position, instead, place_of}
use Rattle.aud_check.proofs.Agreed.{difference-none, ended}

-- the lists agree up to the place where they part
pub agreed_front : (xs ys : List ℕ) → take (agreed xs ys) xs ≡ take (agreed xs ys) ys
agreed_front [] ys = refl
agreed_front (x ∷ xs) [] = refl
agreed_front (x ∷ xs) (y ∷ ys) = go (nat_eq x y) refl (agreed_front xs ys)
  where
    go : (b : Bool) → nat_eq x y ≡ b → take (agreed xs ys) xs ≡ take (agreed xs ys) ys → take (cond b (1 + agreed xs ys) 0) (x ∷ xs) ≡ take (cond b (1 + agreed xs ys) 0) (y ∷ ys)
    go true e front =
        let same : x ≡ y = grind (arith, nat_tests) in
        let one : 1 + agreed xs ys ≡ suc (agreed xs ys) = omega arith in
        rw one (λ i. same i ∷ front i)
    go false e front = refl

-- where both go on there they differ
pub agreed_parts : (xs ys : List ℕ) (x y : ℕ) → slice_get xs (agreed xs ys) ≡ Some x → slice_get ys (agreed xs ys) ≡ Some y → x ≡ y → ⊥
agreed_parts [] ys x y at there same = absurd (none-some x at)
agreed_parts (a ∷ xs) [] x y at there same = absurd (none-some y there)
agreed_parts (a ∷ xs) (b ∷ ys) x y at there same = grind (arith, nat_tests, agreed_parts xs ys x y, same_Some a x, same_Some b y)

-- a position is among those in front of a place, or it is the one there, or it is among those after it
pub has_parts : (xs : List ℕ) (i d p : ℕ) → slice_get xs i ≡ Some d → has_position xs p ≡ (has_position (take i xs) p || (nat_eq d p || has_position (drop (suc i) xs) p))
has_parts [] i d p at = absurd (none-some d at)
has_parts (x ∷ xs) zero d p at = ap (λ n. nat_eq n p || has_position xs p) (same_Some x d at)
has_parts (x ∷ xs) (suc i) d p at = grind (arith, has_parts xs i d p at)

-- ascending positions have none twice
pub not_before : (xs : List ℕ) (i d : ℕ) → IsAscending xs → slice_get xs i ≡ Some d → has_position (take i xs) d ≡ false
not_before [] i d up at = absurd (none-some d at)
not_before (x ∷ xs) zero d up at = refl
not_before (x ∷ xs) (suc i) d up at =
    let within : i < length xs = slice_get_within xs i d at in
    let less = up 0 (suc i) 0 (omega arith) (omega (arith, within)) in
    let is = get_or_from_slice_get xs i d 0 at in
    grind (arith, nat_tests, less, is, not_before xs i d (λ i j e less within. up (suc i) (suc j) e (omega arith) (omega arith)) at)

-- an element is among the positions
has_at : (xs : List ℕ) (i p : ℕ) → slice_get xs i ≡ Some p → has_position xs p ≡ true
has_at [] i p at = absurd (none-some p at)
has_at (x ∷ xs) zero p at = grind (arith, nat_tests, same_Some x p at)
has_at (x ∷ xs) (suc i) p at = grind (arith, nat_tests, has_at xs i p at)

-- where a position stands first
pub placed : (xs : List ℕ) (p i : ℕ) → place_of xs p ≡ Some i → slice_get xs i ≡ Some p
placed xs p i e =
    let (within, is, before) = position-Some (λ q. nat_eq q p) xs i 0 e in
    slice_get-get_or xs i 0 within ∙ ap Some (grind (arith, nat_tests, is))

-- of a position that stands nowhere there is none
pub unplaced : (xs : List ℕ) (p : ℕ) → place_of xs p ≡ None → has_position xs p ≡ false
unplaced [] p e = refl
unplaced (x ∷ xs) p e = go (nat_eq x p) refl (unplaced xs p)
  where
    n : ℕ
    n = position_or_len (λ q. nat_eq q p) xs

    go : (b : Bool) → nat_eq x p ≡ b → (place_of xs p ≡ None → has_position xs p ≡ false) → has_position (x ∷ xs) p ≡ false
    go true is rest = absurd (none-some 0 (sym e ∙ ap (λ b. cond (nat_lt (cond (not b) (1 + n) 0) (suc (length xs))) (Some (cond (not b) (1 + n) 0)) None) is ∙ ap (λ v. cond v (Some 0) None) (lt-ltb 0 (suc (length xs)) (omega arith))))
    go false is rest = grind (arith, nat_tests, rest)

module _ (received due : List ℕ) (place position : ℕ) (first : place ≡ agreed received due) (there : slice_get received place ≡ Some position) where
  -- up to the place the lists agree
  agrees : take place received ≡ take place due
  agrees = rw first (agreed_front received due)

  -- where all that was due had been received
  pub past_shown : slice_get due place ≡ None → (o : Option ℕ) → place_of due position ≡ o → IsDifference received due (difference_past place position o)
  past_shown none None at = record { agrees = agrees; is_there = there; not_due = unplaced due position at }
  past_shown none (Some i) at =
      let all : take place due ≡ due = take_all place due (ended due place none) in
      let stands = placed due position i at in
      let within : i < length due = slice_get_within due i position stands in
      let before : i < place = omega (arith, length-take place due, ap (λ (xs : List ℕ). length xs) all, within) in
      record {
        agrees = agrees;
        in_order = before;
        first_is = sym (slice_get-take place received i before) ∙ ap (λ (xs : List ℕ). slice_get xs i) (agrees ∙ all) ∙ stands;
        again_is = there;
        is_due = grind (arith, has_at due i position stands);
      }

  module _ (other : ℕ) (due_is : slice_get due place ≡ Some other) where
    -- another position was due there
    differs : nat_eq other position ≡ false
    differs = grind (arith, nat_tests, λ (same : position ≡ other). agreed_parts received due position other (rw (← first) there) (rw (← first) due_is) same)

    module _ (is_due : has_position due position ≡ true) (not_had : has_position (take place received) position ≡ false) where
      -- the one that came was due after it
      due_later : has_position (drop (place + 1) due) position ≡ true
      due_later = rw add-one (grind (arith, has_parts due place other position due_is, ap (λ xs. has_position xs position) agrees, differs))

      -- where none comes after, none came before
      not_received : IsAscending due → has_position (drop (place + 1) received) other ≡ false → has_position received other ≡ false
      not_received up none =
          let late : has_position (drop (suc place) received) other ≡ false = rw add-one at none in
          grind (arith, nat_tests, differs, late, has_parts received place position other there, ap (λ xs. has_position xs other) agrees, not_before due place other up due_is)

      -- so the one that was due there comes later, or doesn't come
      displaced_shown : IsAscending due → (o : Option ℕ) → place_of (drop (place + 1) received) other ≡ o → IsDifference received due (displaced place other o)
      displaced_shown up None at =
          record { agrees = agrees; is_due = due_is; other = position; other_is = there; other_due = due_later; none = not_received up (unplaced (drop (place + 1) received) other at) }
      displaced_shown up (Some n) at =
          record {
            agrees = agrees;
            is_due = due_is;
            other = position;
            other_is = there;
            other_due = due_later;
            in_order = omega arith;
            later_is = sym (slice_get-drop (place + 1) received n (place + 1 + n) refl) ∙ placed (drop (place + 1) received) other n at;
          }

    -- one that is due was received before, or the one that was due there is missing
    instead_shown : IsAscending due → has_position due position ≡ true → (o : Option ℕ) → place_of (take place received) position ≡ o → IsDifference received due (instead received place position other o)
    instead_shown up is_due (Some i) at =
        let stands = placed (take place received) position i at in
        let within : i < length (take place received) = slice_get_within (take place received) i position stands in
        let before : i < place = omega (arith, length-take place received, within) in
        record { agrees = agrees; in_order = before; first_is = sym (slice_get-take place received i before) ∙ stands; again_is = there; is_due = is_due }
    instead_shown up is_due None at = displaced_shown is_due (unplaced (take place received) position at) up (place_of (drop (place + 1) received) other) refl

    -- or it isn't due
    pub there_shown : IsAscending due → (b : Bool) → has_position due position ≡ b
        → IsDifference received due (cond b (instead received place position other (place_of (take place received) position)) (Extra place position))
    there_shown up true is = instead_shown up is (place_of (take place received) position) refl
    there_shown up false is = record { agrees = agrees; is_there = there; not_due = is }

-- a difference is as it says, where what was due ascends
pub difference_shown : (received due : List ℕ) (d : Difference) → difference received due ≡ Some d → IsAscending due → IsDifference received due d
difference_shown received due d e up = go (slice_get received place) refl (slice_get due place) refl e
  where
    place : ℕ
    place = agreed received due

    go : (o : Option ℕ) → slice_get received place ≡ o → (p : Option ℕ) → slice_get due place ≡ p → difference_by received due place o p ≡ Some d → IsDifference received due d
    go None there p at is = absurd (none-some d is)
    go (Some g) there None at is = rw (← same_Some (difference_past place g (place_of due g)) d is) (past_shown received due place g refl there at (place_of due g) refl)
    go (Some g) there (Some other) at is = rw (← same_Some (difference_there received due place g other) d is) (there_shown received due place g refl there other at up (has_position due g) refl)

-- what is found is as it says; where nothing is found there is no difference
pub found_shown : (received due : List ℕ) (found : Option Difference) → found ≡ difference received due → MatchOption found (IsPrefixOf received due) (λ d. IsAscending due → IsDifference received due d)
found_shown received due None is = (difference-none received due).0 (sym is)
found_shown received due (Some d) is = difference_shown received due d (sym is)
