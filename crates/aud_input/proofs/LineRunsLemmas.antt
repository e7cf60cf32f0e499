-- Runs of lines one after the other, and the lines of records that are named by them.
use Rattle.std.proofs.Common.{◌≡◌, ℕ, zero, suc, ◌+◌, ◌-◌, ◌<◌, ◌≤◌, ◌^◌, min, List, [], ◌∷◌, ◌++◌, length, map, take, get_or, nat_lt, true, inl, inr, Option, Some, None, option_map, is_some, slice_get, refl, sym, ap, ◌∙◌, arith, append_assoc}
use Rattle.std.specs.List.{All}
use Rattle.std.specs.Option.{option_and_then}
use Rattle.std.proofs.lemmas.Bool.{cases_Bool, le-ltb, ltb-false, ltb-true}
use Rattle.std.proofs.lemmas.List.{map-append, take_more}
use Rattle.std.proofs.lemmas.List.Elements.{All-head, All-tail}
use Rattle.std.proofs.lemmas.Option.{none-some, slice_get-map}
use Rattle.aud_base.specs.Lists.{numbers_from}
use Rattle.aud_base.proofs.Numbers.{numbers_from-suc}
use Rattle.aud_input.specs.declared.line_runs.LineRun.{LineRun}
use Rattle.aud_input.specs.TapLines.{TapLines}
use Rattle.aud_input.specs.LineRuns.{NamesLines, capped, from_known, kept_number, line_in, lines_of_run, lines_of_runs, numbers_named, tap_named, taps_named}

-- ---- runs one after the other

-- numbers, and those that follow them
pub numbers_from-append : (first a b : ℕ) → numbers_from first (a + b) ≡ numbers_from first a ++ numbers_from (first + a) b
numbers_from-append first zero b =
    let e : 0 + b ≡ b = omega arith in
    let f : first ≡ first + 0 = omega arith in
    ap (numbers_from first) e ∙ ap (λ n. numbers_from n b) f
numbers_from-append first (suc a) b =
    let e : suc a + b ≡ suc (a + b) = omega arith in
    let f : suc first + a ≡ first + suc a = omega arith in
    ap (numbers_from first) e ∙ ap (λ ns. first ∷ ns) (numbers_from-append (suc first) a b ∙ ap (λ n. numbers_from (suc first) a ++ numbers_from n b) f)

-- a run that goes on another one
pub run-joined : (before after : LineRun) (count first : ℕ) → first ≡ before.first → count ≡ before.count + after.count → before.first + before.count ≡ after.first
    → numbers_from first count ≡ lines_of_run before ++ lines_of_run after
run-joined before after count first same both goes =
    (λ i. numbers_from (same i) (both i)) ∙ numbers_from-append before.first before.count after.count
    ∙ ap (λ n. lines_of_run before ++ numbers_from n after.count) goes

-- ---- the lines of a part

-- one more line of a run
pub run-line : (old : List ℕ) (new now : List ℕ) (first place line : ℕ) → new ≡ now ++ line ∷ [] → line ≡ capped (first + place) → now ≡ old ++ map capped (numbers_from first place)
    → new ≡ old ++ map capped (numbers_from first (place + 1))
run-line old new now first place line put is so_far =
    let more : place + 1 ≡ suc place = omega arith in
    put ∙ ap (λ ns. ns ++ line ∷ []) so_far ∙ append_assoc old (map capped (numbers_from first place)) (line ∷ [])
    ∙ ap (λ ns. old ++ ns) (ap (λ n. map capped (numbers_from first place) ++ n ∷ []) is ∙ sym (map-more (numbers_from first place) (first + place)))
    ∙ ap (λ ns. old ++ map capped ns) (sym (numbers_from-suc first place)) ∙ ap (λ n. old ++ map capped (numbers_from first n)) (sym more)
  where
    map-more : (ns : List ℕ) (n : ℕ) → map capped (ns ++ n ∷ []) ≡ map capped ns ++ capped n ∷ []
    map-more [] n = refl
    map-more (m ∷ ns) n = ap (λ ms. capped m ∷ ms) (map-more ns n)

-- ---- records named by the lines of the input

-- a number that is kept is no greater one of 64 bits
kept-capped : (n : ℕ) → kept_number (capped n) ≡ kept_number n
kept-capped n = elim (cases_Bool (nat_lt n (2 ^ 64))) [
  | inl small ↦ let same : min n (2 ^ 64 - 1) ≡ n = omega (arith, ltb-true n (2 ^ 64) small) in ap kept_number same
  | inr large ↦
      let high : 2 ^ 64 ≤ n = ltb-false n (2 ^ 64) large in
      let most : min n (2 ^ 64 - 1) ≡ 2 ^ 64 - 1 = omega (arith, high) in
      ap kept_number most ∙ sym (rw (le-ltb n 4294967295 (omega (arith, high))) refl)
]

line-capped : (lines : List ℕ) (number : ℕ) → line_in (map capped lines) number ≡ line_in lines number
line-capped lines zero = refl
line-capped lines (suc place) = ap (option_and_then kept_number) (slice_get-map capped lines place) ∙ go (slice_get lines place)
  where
    go : (o : Option ℕ) → option_and_then kept_number (option_map capped o) ≡ option_and_then kept_number o
    go None = refl
    go (Some n) = kept-capped n

pub numbers-capped : (lines numbers : List ℕ) → numbers_named (map capped lines) numbers ≡ numbers_named lines numbers
numbers-capped lines [] = refl
numbers-capped lines (number ∷ numbers) = λ i. from_known (line-capped lines number i) (numbers-capped lines numbers i)

pub tap-capped : (lines : List ℕ) (tap : TapLines) → tap_named (map capped lines) tap ≡ tap_named lines tap
tap-capped lines tap = λ i. record { name = tap.name; numbers = numbers-capped lines tap.numbers i }

-- one more tap
pub taps-more : (runs : List LineRun) (taps : List TapLines) (i : ℕ) (tap named : TapLines) (old new : List TapLines) (lines : List ℕ) → i < length taps → tap ≡ get_or taps i tap
    → lines ≡ map capped (lines_of_runs runs) → named ≡ tap_named lines tap → old ≡ taps_named runs (take i taps) → new ≡ old ++ named ∷ []
    → new ≡ taps_named runs (take (i + 1) taps)
taps-more runs taps i tap named old new lines within read are is before put =
    put ∙ ap (λ ts. ts ++ named ∷ []) before
    ∙ ap (λ t. taps_named runs (take i taps) ++ t ∷ []) (is ∙ ap (λ ls. tap_named ls tap) are ∙ tap-capped (lines_of_runs runs) tap ∙ ap (tap_named (lines_of_runs runs)) read)
    ∙ sym (map-append (tap_named (lines_of_runs runs)) (take i taps) (get_or taps i tap ∷ []))
    ∙ sym (ap (taps_named runs) (take_more taps i tap within))

-- a line that is named is that of the input which the part's comes from
named-get : (lines numbers : List ℕ) (k line : ℕ) → slice_get (numbers_named lines numbers) k ≡ Some line → option_and_then (line_in lines) (slice_get numbers k) ≡ Some line
named-get lines [] k line e = absurd (none-some line e)
named-get lines (number ∷ numbers) k line e = go (line_in lines number) refl k e (named-get lines numbers)
  where
    go : (o : Option ℕ) → line_in lines number ≡ o → (k : ℕ) → slice_get (from_known o (numbers_named lines numbers)) k ≡ Some line
        → ((k line : ℕ) → slice_get (numbers_named lines numbers) k ≡ Some line → option_and_then (line_in lines) (slice_get numbers k) ≡ Some line)
        → option_and_then (line_in lines) (slice_get (number ∷ numbers) k) ≡ Some line
    go None is k e ih = absurd (none-some line e)
    go (Some l) is zero e ih = is ∙ e
    go (Some l) is (suc k) e ih = ih k line e

-- where all are known, each is named
known-get : (lines numbers : List ℕ) (k : ℕ) → All (λ number. is_some (line_in lines number) ≡ true) numbers
    → slice_get (numbers_named lines numbers) k ≡ option_and_then (line_in lines) (slice_get numbers k)
known-get lines [] k all = refl
known-get lines (number ∷ numbers) k all = go (line_in lines number) refl k (All-head (λ n. is_some (line_in lines n) ≡ true) number numbers all) (λ k. known-get lines numbers k (All-tail (λ n. is_some (line_in lines n) ≡ true) number numbers all))
  where
    go : (o : Option ℕ) → line_in lines number ≡ o → (k : ℕ) → is_some o ≡ true
        → ((k : ℕ) → slice_get (numbers_named lines numbers) k ≡ option_and_then (line_in lines) (slice_get numbers k))
        → slice_get (from_known o (numbers_named lines numbers)) k ≡ option_and_then (line_in lines) (slice_get (number ∷ numbers) k)
    go None is k some ih = absurd (cc)
    go (Some l) is zero some ih = sym is
    go (Some l) is (suc k) some ih = ih k

pub names-lines : NamesLines
names-lines = record {
  named = λ runs taps tap rec line e.
      named-one runs rec line (slice_get taps tap) (ap (option_and_then (λ (t : TapLines). slice_get t.numbers (rec + 1))) (sym (slice_get-map (tap_named (lines_of_runs runs)) taps tap)) ∙ e);
  known = λ runs taps tap rec its at all.
      ap (option_and_then (λ (t : TapLines). slice_get t.numbers (rec + 1))) (slice_get-map (tap_named (lines_of_runs runs)) taps tap ∙ ap (option_map (tap_named (lines_of_runs runs))) at)
      ∙ known-get (lines_of_runs runs) its.numbers (rec + 1) all
      ∙ ap (λ o. option_and_then (line_in (lines_of_runs runs)) (option_and_then (λ (t : TapLines). slice_get t.numbers (rec + 1)) o)) (sym at);
}
  where
    named-one : (runs : List LineRun) (rec line : ℕ) (o : Option TapLines)
        → option_and_then (λ (t : TapLines). slice_get t.numbers (rec + 1)) (option_map (tap_named (lines_of_runs runs)) o) ≡ Some line
        → option_and_then (line_in (lines_of_runs runs)) (option_and_then (λ (t : TapLines). slice_get t.numbers (rec + 1)) o) ≡ Some line
    named-one runs rec line None e = e
    named-one runs rec line (Some t) e = named-get (lines_of_runs runs) t.numbers (rec + 1) line e
