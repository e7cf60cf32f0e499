-- Taps by their names.
use Rattle.std.proofs.Common.{◌≡◌, ℕ, zero, suc, ◌<◌, ◌≤◌, Bool, true, false, cond, List, [], ◌∷◌, length, sym, ap, ◌∙◌, arith, Bor, Option, Some, None, MatchOption, option_map, slice_get, unwrap_or}
use Rattle.std.specs.Str.{bytes_eq}
use Rattle.std.specs.List.{HoldsAt}
use Rattle.aud_base.proofs.Lists.{got, index_is_first}
use Rattle.aud_base.proofs.SameText.{same_text}
use Rattle.aud_tap.specs.declared.taps.Tap.{Tap}
use Rattle.aud_node.specs.Stream.{Text}
use Rattle.aud_node.specs.Names.{place_of}

-- a first index past 0
after : (b : Bool) (o : Option ℕ) (k : ℕ) → cond b (Some 0) (option_map suc o) ≡ Some (suc k) → o ≡ Some k
after true o k h = let e : 0 ≡ suc k = ap (λ o. unwrap_or o 0) h in absurd (omega arith)
after false None k h = cc
after false (Some j) k h = let e : suc j ≡ suc k = ap (λ o. unwrap_or o 0) h in let same : j ≡ k = omega arith in ap Some same

-- the tap at the place of a name has that name
named : (taps : List Tap) (name : Text) (i : ℕ) (tap : Tap) → place_of taps name ≡ Some i → Some tap ≡ slice_get taps i → tap.name ≡ name
named [] name i tap h at = cc
named (t ∷ ts) name zero tap h at = ap (λ o. (unwrap_or o t).name) at ∙ same_text t.name name (index_is_first (bytes_eq t.name name) (place_of ts name) h)
named (t ∷ ts) name (suc k) tap h at = named ts name k tap (after (bytes_eq t.name name) (place_of ts name) k h) at

-- what was borrowed from the place of a name is the tap with that name
pub lent-named : (taps : List Tap) (name : Text) (i : ℕ) (lent : List Tap) (tap : Bor Tap) → lent ≡ taps → Some i ≡ place_of taps name
    → MatchOption (Some tap) (length lent ≤ i) (λ (t : Bor Tap). (i < length lent) × HoldsAt (λ y. t.now ≡ y) lent i) → tap.now.name ≡ name
lent-named taps name i lent tap same at here = named taps name i tap.now (sym at) (got lent i (Some tap) here ∙ ap (λ ts. slice_get ts i) same)
