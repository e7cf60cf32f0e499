-- The positions of the frames of stays, one more at a time.
use Rattle.std.proofs.Common.{◌≡◌, ◌<◌, ◌+◌, ℕ, List, [], ◌∷◌, ◌++◌, length, map, take, get_or, sym, ap, ◌∙◌, append-nil}
use Rattle.std.proofs.lemmas.Grind.{flat_map-append}
use Rattle.std.proofs.lemmas.List.{map-append}
use Rattle.aud_client.specs.StaySeen.{StaySeen, FrameSeen}
use Rattle.aud_check.specs.Frames.{frames_in}
use Rattle.aud_check.proofs.Steps.{at_map, take_at}
use Rattle.aud_check.specs.Window.{positions_received}

abbrev pub position_of : FrameSeen → ℕ
position_of frame = frame.position

-- those of two lists of stays
received-append : (before after : List StaySeen) → positions_received (before ++ after) ≡ positions_received before ++ positions_received after
received-append before after =
    ap (map position_of) (flat_map-append (λ (stay : StaySeen). stay.frames) before after)
    ∙ map-append position_of (frames_in before) (frames_in after)

-- those of one stay
received-one : (stay : StaySeen) → positions_received (stay ∷ []) ≡ map position_of stay.frames
received-one stay = ap (map position_of) (append-nil stay.frames)

-- with one stay more
pub stays_more : {X : Type 0} (f : X → StaySeen) (xs : List X) (i : ℕ) (x : X) (old new : List ℕ) → i < length xs → x ≡ get_or xs i x
    → old ≡ positions_received (take i (map f xs)) → new ≡ old ++ map position_of (f x).frames → new ≡ positions_received (take (i + 1) (map f xs))
stays_more f xs i x old new h is was more =
    more
    ∙ ap (λ ps. ps ++ map position_of (f x).frames) was
    ∙ ap (λ ps. positions_received (take i (map f xs)) ++ ps) (sym (received-one (f x)))
    ∙ sym (received-append (take i (map f xs)) (f x ∷ []))
    ∙ sym (ap positions_received (take_at (map f xs) i (f x) (at_map f xs i x h is)))
