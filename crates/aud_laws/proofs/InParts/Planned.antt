-- The sessions of a plan as they are listed: those of each part are those that the plan has in it.
use Rattle.std.proofs.Common.{◌≡◌, ◌==◌, ℕ, Bool, true, false, cond, List, [], ◌∷◌, map, filter, refl, sym, ap, subst, ◌∙◌}
use Rattle.std.specs.List.{All}
use Rattle.std.proofs.lemmas.List.Elements.{All-nil, All-cons}
use Rattle.aud_tap.specs.declared.taps.Tap.{Tap}
use Rattle.aud_node.specs.Stream.{Text}
use Rattle.aud_parts.specs.declared.listing.ListedSession.{ListedSession}
use Rattle.aud_parts.specs.Listing.{is_of_part, pids_of_part}
use Rattle.aud_parts.specs.Part.{KeepsClients, KeepsFirsts}
use Rattle.aud_parts.specs.Plan.{pids_with}
use Rattle.aud_laws.specs.Parts.{MayBePart}

abbrev pids_in_order : List ListedSession → List Text
pids_in_order sessions = map (λ (s : ListedSession). s.pid) sessions

abbrev parts_in_order : List ListedSession → List ℕ
parts_in_order sessions = map (λ (s : ListedSession). s.part) sessions

of-part : (part : ℕ) (sessions : List ListedSession) → pids_of_part sessions part ≡ pids_with part (pids_in_order sessions) (parts_in_order sessions)
of-part part [] = refl
of-part part (s ∷ sessions) = go (s.part == part) (of-part part sessions)
  where
    go : (b : Bool) → pids_of_part sessions part ≡ pids_with part (pids_in_order sessions) (parts_in_order sessions)
        → pids_in_order (cond b (s ∷ filter (is_of_part part) sessions) (filter (is_of_part part) sessions))
        ≡ cond b (s.pid ∷ pids_with part (pids_in_order sessions) (parts_in_order sessions)) (pids_with part (pids_in_order sessions) (parts_in_order sessions))
    go true ih = ap (λ ps. s.pid ∷ ps) ih
    go false ih = ih

module _ (taps : List Tap) (sessions : List ListedSession) (pids : List Text) (parts : List ℕ) (same_pids : pids_in_order sessions ≡ pids) (same_parts : parts_in_order sessions ≡ parts) where
  listed-part : (part : ℕ) → pids_with part pids parts ≡ pids_of_part sessions part
  listed-part part = sym (of-part part sessions ∙ ap (λ ps. pids_with part ps (parts_in_order sessions)) same_pids ∙ ap (pids_with part pids) same_parts)

  -- those of each part may make one, where those that the plan has in it may
  pub listed-parts : ((part : ℕ) → KeepsClients (pids_with part pids parts) taps) → ((part : ℕ) → KeepsFirsts (pids_with part pids parts) taps) → (numbers : List ℕ)
      → All (MayBePart taps) (map (pids_of_part sessions) numbers)
  listed-parts clients firsts [] = All-nil (MayBePart taps)
  listed-parts clients firsts (part ∷ numbers) =
      All-cons (MayBePart taps) (pids_of_part sessions part) (map (pids_of_part sessions) numbers) (subst (MayBePart taps) (listed-part part) (clients part, firsts part)) (listed-parts clients firsts numbers)
