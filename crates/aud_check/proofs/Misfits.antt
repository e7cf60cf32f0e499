-- Positions that don't lie where they were to.
use Rattle.std.proofs.Common.{◌≡◌, ◌<◌, ◌≤◌, ◌-◌, ℕ, Bool, true, false, not, ◌&&◌, List, [], ◌∷◌, length, take, drop, get_or, Option, Some, None, MatchOption, slice_get, nat_le, nat_lt, refl, sym, ap, subst, ◌∙◌, inl, inr, arith}
use Rattle.std.specs.List.{list_all}
use Rattle.std.specs.Option.{option_and_then}
use Rattle.std.proofs.lemmas.Bool.{cases_lt}
use Rattle.std.proofs.lemmas.Bool.Decides.{nat_tests}
use Rattle.std.proofs.lemmas.List.{drop_all, length-take-le, take-append-drop}
use Rattle.std.proofs.lemmas.Option.{slice_get-get_or}
use Rattle.aud_base.proofs.Lists.{slice_get-take, slice_get-drop}
use Rattle.aud_base.proofs.Truth.{and_none}
use Rattle.aud_tap.specs.declared.records.StreamRec.{StreamRec}
use Rattle.aud_node.specs.Stream.{Text, position}
use Rattle.aud_client.specs.StaySeen.{AskedSeen}
use Rattle.aud_check.specs.Frames.{asked_position}
use Rattle.aud_check.proofs.Cuts.{front_ascends, drop_ascends, upto_last, past_first}
use Rattle.aud_check.specs.Difference.{IsAscending}
use Rattle.aud_check.specs.declared.window.Misfit.{Misfit}
use Rattle.aud_check.specs.declared.window.Misfit.TheVariants.{NoOffset, Unknown, Behind, NotBehind}
use Rattle.aud_check.specs.Window.{IsBehind, IsNotBehind, IsMisfit, asked_offset}
use Rattle.aud_check.specs.Private.Misplaced.{IsMisplaced, is_cut, is_cut_or_not}

-- the first none of a list
take_none : {X : Type 0} (xs : List X) (n : ℕ) → n ≡ 0 → take n xs ≡ []
take_none [] n e = ap (λ m. take m []) e
take_none (x ∷ xs) n e = ap (λ m. take m (x ∷ xs)) e

module _ (ps : List ℕ) (count q : ℕ) where
  -- the last of so many first ones is past the position
  abbrev pub last_past : Bool
  last_past = nat_lt 0 count && nat_lt q (get_or ps (count - 1) 0)

  -- the one after so many isn't past the position
  abbrev pub next_reached : Bool
  next_reached = nat_lt count (length ps) && nat_le (get_or ps count 0) q

  -- where there is a last one it tells
  pub behind : last_past ≡ true → (0 < count) × (q < get_or ps (count - 1) 0)
  behind e = grind (arith, nat_tests)

  -- where there is a next one it tells
  pub reached : next_reached ≡ true → (count < length ps) × (get_or ps count 0 ≤ q)
  reached e = grind (arith, nat_tests)

  module _ (within : count ≤ length ps) (up : IsAscending ps) where
    -- of those in front the last tells
    front_tells : list_all (λ p. nat_le p q) (take count ps) ≡ not last_past
    front_tells =
        elim (cases_lt 0 count) [
          | inl some ↦
              let in_it : count - 1 < length ps = omega arith in
              let there = ap (λ n. slice_get (take count ps) (n - 1)) (length-take-le count ps within) ∙ slice_get-take count ps (count - 1) (omega arith) ∙ slice_get-get_or ps (count - 1) 0 in_it in
              let test : nat_le (get_or ps (count - 1) 0) q ≡ not last_past = grind (arith, nat_tests) in
              sym (upto_last q (get_or ps (count - 1) 0) (take count ps) (front_ascends (take count ps) ps (drop count ps, take-append-drop count ps) up) (sym there)) ∙ test
          | inr none ↦
              let test : true ≡ not last_past = grind (arith, nat_tests) in
              ap (list_all (λ p. nat_le p q)) (take_none ps count (omega arith)) ∙ test
        ]

    -- of those after the first tells
    rest_tells : list_all (λ p. nat_lt q p) (drop count ps) ≡ not next_reached
    rest_tells =
        elim (cases_lt count (length ps)) [
          | inl some ↦
              let there = slice_get-drop count ps 0 count (omega arith) ∙ slice_get-get_or ps count 0 some in
              let test : nat_lt q (get_or ps count 0) ≡ not next_reached = grind (arith, nat_tests) in
              sym (past_first q (get_or ps count 0) (drop count ps) (drop_ascends ps count up) (sym there)) ∙ test
          | inr none ↦
              let test : true ≡ not next_reached = grind (arith, nat_tests) in
              ap (list_all (λ p. nat_lt q p)) (drop_all count ps none) ∙ test
        ]

    -- so the position lies there where neither fails
    tells : is_cut ps count q ≡ (not last_past && not next_reached)
    tells = ap (λ b. b && list_all (λ p. nat_lt q p) (drop count ps)) front_tells ∙ ap (λ b. not last_past && b) rest_tells

    pub is_behind : last_past ≡ true → (is_cut ps count q ≡ false) × IsMisplaced ps count q (Behind (count - 1))
    is_behind e =
        let (some, past) = behind e in (
          tells ∙ ap (λ b. not b && not next_reached) e,
          record { after = q; asked_is = refl; is_last = omega arith; position = get_or ps (count - 1) 0; is_there = slice_get-get_or ps (count - 1) 0 (omega arith); is_past = past },
        )

    pub is_not_behind : next_reached ≡ true → (is_cut ps count q ≡ false) × IsMisplaced ps count q (NotBehind count)
    is_not_behind e =
        let (some, not_past) = reached e in (
          tells ∙ ap (λ b. not last_past && not b) e ∙ and_none (not last_past),
          record { after = q; asked_is = refl; is_next = refl; position = get_or ps count 0; is_there = slice_get-get_or ps count 0 some; is_not_past = not_past },
        )

    pub lies : last_past ≡ false → next_reached ≡ false → is_cut ps count q ≡ true
    lies e n = tells ∙ ap (λ b. not b && not next_reached) e ∙ ap not n

module _ (stream : List StreamRec) (ps : List ℕ) (count : ℕ) (asked : Option AskedSeen) where
  -- the position asked for is that of the offset
  by_offset : (a : Option AskedSeen) → asked_position stream a ≡ option_and_then (position stream) (asked_offset a)
  by_offset None = refl
  by_offset (Some a) = refl

  -- it lies there or it doesn't
  abbrev pub fits : Bool
  fits = is_cut_or_not ps count (asked_position stream asked)

  -- where no offset was given there is no position
  pub is_unasked : None ≡ asked_offset asked → (fits ≡ false) × IsMisfit stream ps asked count NoOffset
  is_unasked e = (ap (is_cut_or_not ps count) (by_offset asked ∙ ap (option_and_then (position stream)) (sym e)), sym e)

  -- nor where the stream doesn't have it
  pub is_unknown : (off : Text) → Some off ≡ asked_offset asked → None ≡ position stream off → (fits ≡ false) × IsMisfit stream ps asked count Unknown
  is_unknown off e none = (ap (is_cut_or_not ps count) (by_offset asked ∙ ap (option_and_then (position stream)) (sym e) ∙ sym none), (off, sym e, sym none))

  module _ (off : Text) (q : ℕ) (given : Some off ≡ asked_offset asked) (known : Some q ≡ position stream off) where
    -- the position that was asked for
    is_asked : asked_position stream asked ≡ Some q
    is_asked = by_offset asked ∙ ap (option_and_then (position stream)) (sym given) ∙ sym known

    misfit_by : (why : Misfit) → IsMisplaced ps count q why → IsMisfit stream ps asked count why
    misfit_by NoOffset w = absurd w
    misfit_by Unknown w = absurd w
    misfit_by (Behind frame) w = subst (λ o. IsBehind ps o count frame) (sym is_asked) w
    misfit_by (NotBehind frame) w = subst (λ o. IsNotBehind ps o count frame) (sym is_asked) w

    -- else the position tells
    pub is_placed : (found : Option Misfit) → MatchOption found (is_cut ps count q ≡ true) (λ why. (is_cut ps count q ≡ false) × IsMisplaced ps count q why)
        → MatchOption found (fits ≡ true) (λ why. (fits ≡ false) × IsMisfit stream ps asked count why)
    is_placed None w = ap (is_cut_or_not ps count) is_asked ∙ w
    is_placed (Some why) w = (ap (is_cut_or_not ps count) is_asked ∙ w.0, misfit_by why w.1)
