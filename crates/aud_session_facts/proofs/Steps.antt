-- One element more, as loops read lists.
use Rattle.std.proofs.Common.{add-one, ◌≡◌, ◌<◌, ◌+◌, ◌-◌, ℕ, suc, true, List, [], ◌∷◌, ◌++◌, length, map, take, get_or, Some, is_some, slice_get, refl, ap, ◌∙◌, arith, append-nil, flat_map}
use Rattle.std.specs.Option.{option_map, option_or}
use Rattle.std.proofs.lemmas.Grind.{flat_map-append}
use Rattle.std.proofs.lemmas.Option.{get_or_from_slice_get, slice_get-map, slice_get_read, slice_get_within}
use Rattle.std.proofs.Math.Seq.{take-suc}
use Rattle.aud_base.proofs.Numbers.{numbers_from-more}
use Rattle.aud_node.specs.Lists.{numbers_from}
use Rattle.aud_client.specs.StaySeen.{StaySeen, FrameSeen}
use Rattle.aud_session_facts.specs.Missed.{last_position}
use Rattle.aud_session_facts.specs.Private.Last.{last_in_stays}

-- what the numbers so far give, and one more
pub given-more : {Y : Type 0} (f : ℕ → List Y) (i : ℕ) → flat_map f (numbers_from 0 (i + 1)) ≡ flat_map f (numbers_from 0 i) ++ f i
given-more f i =
    ap (flat_map f) (numbers_from-more i) ∙ flat_map-append f (numbers_from 0 i) (i ∷ [])
    ∙ ap (λ ys. flat_map f (numbers_from 0 i) ++ ys) (append-nil (f i))

-- the last of frames and of more frames
pub last-append : (xs ys : List FrameSeen) → last_position (xs ++ ys) ≡ option_or (last_position ys) (last_position xs)
last-append [] ys = grind arith
last-append (x ∷ xs) ys = grind (arith, last-append xs ys)

-- the last of the frames in stays, and in one more
pub last-more : {X : Type 0} (f : X → StaySeen) (xs : List X) (i : ℕ) (x : X) → i < length xs → x ≡ get_or xs i x
    → last_in_stays (take (i + 1) (map f xs)) ≡ option_or (last_position (f x).frames) (last_in_stays (take i (map f xs)))
last-more f xs i x h is =
    let at : slice_get (map f xs) i ≡ Some (f x) = slice_get-map f xs i ∙ ap (option_map f) (slice_get_read xs (length xs) i x refl h is) in
    let frames : StaySeen → List FrameSeen = λ stay. stay.frames in
    ap last_in_stays (more (map f xs) i (f x) at)
    ∙ ap last_position (flat_map-append frames (take i (map f xs)) (f x ∷ []) ∙ ap (λ ys. flat_map frames (take i (map f xs)) ++ ys) (append-nil (f x).frames))
    ∙ last-append (flat_map frames (take i (map f xs))) (f x).frames
  where
    more : (ys : List StaySeen) (i : ℕ) (y : StaySeen) → slice_get ys i ≡ Some y → take (i + 1) ys ≡ take i ys ++ y ∷ []
    more ys i y at = rw add-one (take-suc ys i y (slice_get_within ys i y at) ∙ ap (λ z. take i ys ++ z ∷ []) (get_or_from_slice_get ys i y y at))

-- the last of the frames is the one at the last index
pub last_at : (xs : List FrameSeen) → last_position xs ≡ option_map (λ (frame : FrameSeen). frame.position) (slice_get xs (length xs - 1))
last_at [] = refl
last_at (x ∷ []) = refl
last_at (x ∷ y ∷ ys) =
    let e : length (x ∷ y ∷ ys) - 1 ≡ suc (length (y ∷ ys) - 1) = omega arith in
    grind (arith, last_at (y ∷ ys), e, last_some y ys)
  where
    last_some : (y : FrameSeen) (ys : List FrameSeen) → is_some (last_position (y ∷ ys)) ≡ true
    last_some y ys = grind arith
