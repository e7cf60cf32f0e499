-- Ascending positions, cut at a place.
use Rattle.std.proofs.Common.{◌≡◌, ◌<◌, ◌+◌, ◌-◌, ℕ, zero, suc, Bool, ◌&&◌, List, [], ◌∷◌, ◌++◌, length, map, take, drop, get_or, Option, Some, None, slice_get, nat_le, nat_lt, refl, sym, ap, ◌∙◌, arith, length-append}
use Rattle.std.specs.List.{list_all}
use Rattle.std.proofs.lemmas.Bool.Decides.{nat_tests}
use Rattle.std.proofs.lemmas.List.{get_or_append_left}
use Rattle.std.proofs.lemmas.Option.{get_or_from_slice_get, none-some, same_Some}
use Rattle.aud_base.proofs.Truth.{and_true}
use Rattle.aud_client.specs.StaySeen.{FrameSeen}
use Rattle.aud_merge.specs.ByTurns.{IsPrefixOf}
use Rattle.aud_check.specs.Difference.{IsAscending}
use Rattle.aud_check.specs.Private.Misplaced.{is_cut_or_not}
use Rattle.aud_check.specs.Frames.{is_cut_at}

-- the front of ascending positions ascends
pub front_ascends : (xs ys : List ℕ) → IsPrefixOf xs ys → IsAscending ys → IsAscending xs
front_ascends xs ys (rest, is) all i j d less within =
    let long : length xs + length rest ≡ length ys = sym (length-append xs rest) ∙ ap length is in
    let x = all i j d less (omega arith) in
    let one : get_or ys i d ≡ get_or xs i d = ap (λ zs. get_or zs i d) (sym is) ∙ get_or_append_left xs rest d i (omega arith) in
    let other : get_or ys j d ≡ get_or xs j d = ap (λ zs. get_or zs j d) (sym is) ∙ get_or_append_left xs rest d j within in
    omega (arith, x, one, other)

-- those after the first one ascend
tail : (x : ℕ) (xs : List ℕ) → IsAscending (x ∷ xs) → IsAscending xs
tail x xs up i j d less within = up (suc i) (suc j) d (omega arith) (omega arith)

-- the positions after so many first ones ascend
pub drop_ascends : (xs : List ℕ) (count : ℕ) → IsAscending xs → IsAscending (drop count xs)
drop_ascends [] zero up = up
drop_ascends [] (suc count) up = up
drop_ascends (x ∷ xs) zero up = up
drop_ascends (x ∷ xs) (suc count) up = drop_ascends xs count (tail x xs up)

-- of two positions, the greater one tells whether neither passes a third, and the lesser one whether both do
greater_tells : (x z q : ℕ) → x < z → (nat_le x q && nat_le z q) ≡ nat_le z q
greater_tells x z q h = grind (arith, nat_tests)

-- the lesser one tells whether both pass it
lesser_tells : (x y q : ℕ) → x < y → (nat_lt q x && nat_lt q y) ≡ nat_lt q x
lesser_tells x y q h = grind (arith, nat_tests)

-- so the last of ascending ones tells for all
upto_at : (q z : ℕ) (xs : List ℕ) (k : ℕ) → IsAscending xs → suc k ≡ length xs → slice_get xs k ≡ Some z → list_all (λ p. nat_le p q) xs ≡ nat_le z q
upto_at q z [] k up e at = absurd (omega (arith, e))
upto_at q z (x ∷ []) zero up e at = and_true (nat_le x q) ∙ ap (λ n. nat_le n q) (same_Some x z at)
upto_at q z (x ∷ []) (suc k) up e at = absurd (omega (arith, e))
upto_at q z (x ∷ y ∷ ys) zero up e at = absurd (omega (arith, e))
upto_at q z (x ∷ y ∷ ys) (suc k) up e at =
    let below : x < get_or (y ∷ ys) k 0 = up 0 (suc k) 0 (omega arith) (omega (arith, e)) in
    let last = get_or_from_slice_get (y ∷ ys) k z 0 at in
    ap (λ b. nat_le x q && b) (upto_at q z (y ∷ ys) k (tail x (y ∷ ys) up) (omega (arith, e)) at) ∙ greater_tells x z q (omega (arith, below, last))

-- the last of the positions tells whether none passes q
pub upto_last : (q z : ℕ) (xs : List ℕ) → IsAscending xs → Some z ≡ slice_get xs (length xs - 1) → nat_le z q ≡ list_all (λ p. nat_le p q) xs
upto_last q z [] up at = absurd (none-some z (sym at))
upto_last q z (x ∷ xs) up at = sym (upto_at q z (x ∷ xs) (length (x ∷ xs) - 1) up (omega arith) (sym at))

-- and the first of them
past_at : (q x : ℕ) (xs : List ℕ) → IsAscending (x ∷ xs) → list_all (λ p. nat_lt q p) (x ∷ xs) ≡ nat_lt q x
past_at q x [] up = and_true (nat_lt q x)
past_at q x (y ∷ ys) up =
    let below : x < y = up 0 1 0 (omega arith) (omega arith) in
    ap (λ b. nat_lt q x && b) (past_at q y ys (tail x (y ∷ ys) up)) ∙ lesser_tells x y q below

-- the first of the positions tells whether all pass q
pub past_first : (q z : ℕ) (xs : List ℕ) → IsAscending xs → Some z ≡ slice_get xs 0 → nat_lt q z ≡ list_all (λ p. nat_lt q p) xs
past_first q z [] up at = absurd (none-some z (sym at))
past_first q z (x ∷ xs) up at = ap (nat_lt q) (same_Some z x at) ∙ sym (past_at q x xs up)

-- ---- frames by their positions

-- the position of a frame
abbrev pub position_of : FrameSeen → ℕ
position_of frame = frame.position

-- a test of the first positions is a test of the first frames
in_front : (f : ℕ → Bool) (before onward : List FrameSeen) → list_all f (take (length before) (map position_of (before ++ onward))) ≡ list_all (λ frame. f (position_of frame)) before
in_front f [] [] = refl
in_front f [] (y ∷ onward) = refl
in_front f (x ∷ before) onward = ap (λ b. f (position_of x) && b) (in_front f before onward)

-- a test of the positions from a place on is a test of the frames from there on
from_there : (f : ℕ → Bool) (before onward : List FrameSeen) → list_all f (drop (length before) (map position_of (before ++ onward))) ≡ list_all (λ frame. f (position_of frame)) onward
from_there f [] [] = refl
from_there f [] (y ∷ onward) = ap (λ b. f (position_of y) && b) (from_there f [] onward)
from_there f (x ∷ before) onward = from_there f before onward

-- a recovery cuts the frames where its position cuts theirs
pub is_between-cut : (before onward : List FrameSeen) (o : Option ℕ) → is_cut_at before onward o ≡ is_cut_or_not (map position_of (before ++ onward)) (length before) o
is_between-cut before onward None = refl
is_between-cut before onward (Some q) =
    ap (λ b. b && list_all (λ (frame : FrameSeen). nat_lt q frame.position) onward) (sym (in_front (λ p. nat_le p q) before onward))
    ∙ ap (λ b. list_all (λ p. nat_le p q) (take (length before) (map position_of (before ++ onward))) && b) (sym (from_there (λ p. nat_lt q p) before onward))
