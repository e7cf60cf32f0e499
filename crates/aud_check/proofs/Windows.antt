-- What the stays asked for, one after another.
use Rattle.std.proofs.Common.{◌≡◌, ◌≤◌, ◌+◌, ◌-◌, ◌<◌, ℕ, Bool, cond, not, ◌&&◌, List, [], ◌∷◌, ◌++◌, length, map, take, drop, get_or, Some, slice_get, sym, ap, ◌∙◌, arith, append-nil, length-append}
use Rattle.std.proofs.lemmas.Grind.{flat_map-append}
use Rattle.std.proofs.lemmas.List.{length-map, take-append-drop}
use Rattle.aud_tap.specs.declared.records.StreamRec.{StreamRec}
use Rattle.aud_client.specs.StaySeen.{StaySeen}
use Rattle.aud_client.specs.Received.{is_recovered}
use Rattle.aud_check.specs.Private.Misplaced.{is_cut_or_not}
use Rattle.aud_check.specs.Frames.{asked_position, frames_in, is_asked_wrongly, wrong_window}
use Rattle.aud_check.proofs.Cuts.{position_of, is_between-cut}
use Rattle.aud_check.proofs.Steps.{at_map, take_at, drop_from}

module _ {X : Type 0} (f : X → StaySeen) (stream : List StreamRec) (xs : List X) (positions : List ℕ) (are : positions ≡ map position_of (frames_in (map f xs)))
    (i left : ℕ) (x : X) (h : i < length xs) (is : x ≡ get_or xs i x) (rest : length (frames_in (take i (map f xs))) + left ≡ length positions) where
  -- the stays as contracts see them
  abbrev stays : List StaySeen
  stays = map f xs

  -- the one that is looked at
  abbrev stay : StaySeen
  stay = f x

  -- how many positions are those of the stays in front
  abbrev count : ℕ
  count = length positions - left

  -- it stands at its place
  at : slice_get stays i ≡ Some stay
  at = at_map f xs i x h is

  -- so many frames are in front of it
  counted : count ≡ length (frames_in (take i stays))
  counted = omega (arith, rest)

  -- the frames in front, and those from the stay on
  parts : frames_in stays ≡ frames_in (take i stays) ++ frames_in (stay ∷ drop (i + 1) stays)
  parts =
      ap frames_in (sym (take-append-drop i stays) ∙ ap (λ ss. take i stays ++ ss) (drop_from stays i stay at))
      ∙ flat_map-append (λ (s : StaySeen). s.frames) (take i stays) (stay ∷ drop (i + 1) stays)

  -- the positions are those in front, its own and the later ones
  long : length positions ≡ count + (length stay.frames + length (frames_in (drop (i + 1) stays)))
  long =
      ap length are ∙ length-map (frames_in stays) position_of ∙ ap length parts
      ∙ length-append (frames_in (take i stays)) (frames_in (stay ∷ drop (i + 1) stays))
      ∙ ap (λ n. n + length (stay.frames ++ frames_in (drop (i + 1) stays))) (sym counted)
      ∙ ap (λ n. count + n) (length-append stay.frames (frames_in (drop (i + 1) stays)))

  -- the test of the positions is the test of the frames
  wrongly : (is_recovered stay && not (is_cut_or_not positions count (asked_position stream stay.asked))) ≡ is_asked_wrongly stream (take i stays) stay (drop (i + 1) stays)
  wrongly =
      ap (λ ps. is_recovered stay && not (is_cut_or_not ps count (asked_position stream stay.asked))) (are ∙ ap (map position_of) parts)
      ∙ ap (λ n. is_recovered stay && not (is_cut_or_not (map position_of (frames_in (take i stays) ++ frames_in (stay ∷ drop (i + 1) stays))) n (asked_position stream stay.asked))) counted
      ∙ sym (ap (λ b. is_recovered stay && not b) (is_between-cut (frames_in (take i stays)) (frames_in (stay ∷ drop (i + 1) stays)) (asked_position stream stay.asked)))

  -- whether the stay was asked wrongly says whether the next ones are looked at
  pub judged : (b : Bool) → b ≡ (is_recovered stay && not (is_cut_or_not positions count (asked_position stream stay.asked)))
      → wrong_window stream (take i stays) (drop i stays) ≡ cond b (Some stay.c) (wrong_window stream (take (i + 1) stays) (drop (i + 1) stays))
  judged b is =
      ap (wrong_window stream (take i stays)) (drop_from stays i stay at)
      ∙ ap (λ z. cond z (Some stay.c) (wrong_window stream (take i stays ++ stay ∷ []) (drop (i + 1) stays))) (sym (is ∙ wrongly))
      ∙ ap (λ ss. cond b (Some stay.c) (wrong_window stream ss (drop (i + 1) stays))) (sym (take_at stays i stay at))

  -- the positions from the next stay on
  pub left_more : (length stay.frames ≤ left) × (length (frames_in (take (i + 1) stays)) + (left - length stay.frames) ≡ length positions)
  left_more =
      let more : length (frames_in (take (i + 1) stays)) ≡ length (frames_in (take i stays)) + length stay.frames =
      ap length (ap frames_in (take_at stays i stay at) ∙ flat_map-append (λ (s : StaySeen). s.frames) (take i stays) (stay ∷ []))
      ∙ length-append (frames_in (take i stays)) (stay.frames ++ [])
      ∙ ap (λ fs. length (frames_in (take i stays)) + length fs) (append-nil stay.frames)
      in
      let within = long in
      (omega (arith, within, rest, counted), omega (arith, within, rest, counted, more))
