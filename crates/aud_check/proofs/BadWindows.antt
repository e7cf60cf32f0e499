-- The stays of a session, and what was asked for, one after another.
use Rattle.std.proofs.Common.{◌≡◌, ◌+◌, ◌-◌, ◌<◌, ℕ, Bool, true, false, not, ◌&&◌, List, [], ◌∷◌, ◌++◌, length, map, take, drop, get_or, Some, slice_get, refl, sym, ap, subst, ◌∙◌, arith}
use Rattle.std.proofs.lemmas.Grind.{flat_map-append}
use Rattle.std.proofs.lemmas.List.{take-append-drop}
use Rattle.aud_tap.specs.declared.records.StreamRec.{StreamRec}
use Rattle.aud_client.specs.StaySeen.{StaySeen}
use Rattle.aud_client.specs.Received.{is_recovered}
use Rattle.aud_check.specs.Frames.{asked_position, frames_in, wrong_window}
use Rattle.aud_check.proofs.Cuts.{position_of, is_between-cut}
use Rattle.aud_check.proofs.Steps.{at_map, drop_from}
use Rattle.aud_check.proofs.Windows.{judged}
use Rattle.aud_check.specs.declared.window.Misfit.{Misfit}
use Rattle.aud_check.specs.Window.{IsBadWindow, IsMisfit, positions_received, is_bad_window, is_next_bad}
use Rattle.aud_check.specs.Private.Misplaced.{is_cut_or_not}

module _ {X : Type 0} (f : X → StaySeen) (stream : List StreamRec) (xs : List X) (positions : List ℕ) (are : positions ≡ positions_received (map f xs))
    (i left : ℕ) (x : X) (h : i < length xs) (is : x ≡ get_or xs i x) (rest : length (frames_in (take i (map f xs))) + left ≡ length positions) where
  -- the stays as contracts see them
  abbrev stays : List StaySeen
  stays = map f xs

  -- it stands at its place
  at : slice_get stays i ≡ Some (f x)
  at = at_map f xs i x h is

  -- so many frames are in front of it
  counted : length positions - left ≡ length (frames_in (take i stays))
  counted = omega (arith, rest)

  -- whether what was asked for fits them
  abbrev fits : Bool
  fits = is_cut_or_not positions (length positions - left) (asked_position stream (f x).asked)

  -- the positions are those in front, and those from the stay on
  parts : positions ≡ map position_of (frames_in (take i stays) ++ frames_in (f x ∷ drop (i + 1) stays))
  parts =
      are
      ∙ ap positions_received (sym (take-append-drop i stays) ∙ ap (λ ss. take i stays ++ ss) (drop_from stays i (f x) at))
      ∙ ap (map position_of) (flat_map-append (λ (s : StaySeen). s.frames) (take i stays) (f x ∷ drop (i + 1) stays))

  -- whether the stay is asked for wrongly
  is_bad : is_bad_window stream stays i ≡ (is_recovered (f x) && not fits)
  is_bad =
      ap (is_next_bad stream (take i stays)) (drop_from stays i (f x) at)
      ∙ ap (λ b. is_recovered (f x) && not b) (is_between-cut (frames_in (take i stays)) (frames_in (f x ∷ drop (i + 1) stays)) (asked_position stream (f x).asked))
      ∙ ap (λ ps. is_recovered (f x) && not (is_cut_or_not ps (length (frames_in (take i stays))) (asked_position stream (f x).asked))) (sym parts)
      ∙ ap (λ n. is_recovered (f x) && not (is_cut_or_not positions n (asked_position stream (f x).asked))) (sym counted)

  module _ (passed : wrong_window stream (take i stays) (drop i stays) ≡ wrong_window stream [] stays)
      (before : (earlier : ℕ) → earlier < i → is_bad_window stream stays earlier ≡ false) where
    -- a stay that doesn't fit, after others that do, is the first
    pub is_first : (why : Misfit) → is_recovered (f x) ≡ true → fits ≡ false → IsMisfit stream positions (f x).asked (length positions - left) why
        → IsBadWindow stream stays (record { stay = i; c = (f x).c; why = why })
    is_first why recovered misfit shown =
        let bad = ap (λ b. b && not fits) recovered ∙ ap not misfit in
        record {
          stay = f x;
          is_there = at;
          is_recovered = recovered;
          is_bad = is_bad ∙ bad;
          before = before;
          why = subst (λ n. IsMisfit stream (positions_received stays) (f x).asked n why) counted (subst (λ ps. IsMisfit stream ps (f x).asked (length positions - left) why) are shown);
          connection = refl;
          named = sym passed ∙ judged f stream xs positions are i left x h is rest true (sym bad);
        }

    module _ (good : (is_recovered (f x) && not fits) ≡ false) where
      -- a stay that fits leaves the search to the next ones
      pub passed_more : wrong_window stream (take (i + 1) stays) (drop (i + 1) stays) ≡ wrong_window stream [] stays
      passed_more = sym (judged f stream xs positions are i left x h is rest false (sym good)) ∙ passed

      -- and so the stays with it fit
      pub before_more : (earlier : ℕ) → earlier < i + 1 → is_bad_window stream stays earlier ≡ false
      before_more earlier within = grind (arith, before, is_bad, good)
