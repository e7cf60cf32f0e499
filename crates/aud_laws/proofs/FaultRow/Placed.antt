-- Which stay of a client's tap, and which frame of it, is one of a session.
use Rattle.std.proofs.Common.{◌≡◌, ℕ, zero, suc, ◌<◌, ◌-◌, Bool, true, false, cond, List, [], ◌∷◌, length, Option, Some, None, slice_get, nat_lt, refl, ap, subst, ◌∙◌, inl, inr, arith, length-append}
use Rattle.std.specs.List.{filter, filter_map, cons_option}
use Rattle.std.specs.Option.{option_map_or}
use Rattle.std.proofs.lemmas.Bool.{cases_lt, false≢true}
use Rattle.std.proofs.lemmas.Option.{none-some}
use Rattle.aud_base.specs.Lists.{numbers_from}
use Rattle.aud_base.proofs.Lists.{element_at}
use Rattle.aud_node.specs.Stream.{Text}
use Rattle.aud_client.specs.StaySeen.{StaySeen, FrameSeen}
use Rattle.aud_client.specs.Received.{numbers_naming, stay_names_pid, stays_naming, stays_numbered}
use Rattle.aud_client.proofs.Numbers.{numbered_naming}
use Rattle.aud_check.specs.Frames.{frames_in}
use Rattle.aud_session_facts.specs.declared.shown.frame_place.FramePlace.{FramePlace}
use Rattle.aud_session_facts.specs.FramePlaces.{frame_at, frames_of}

-- ---- frames

-- the frame with this number, over the stays with these numbers, stands in a stay that is there
pub record IsPlaced (stays : List StaySeen) (numbers : List ℕ) (frame : ℕ) : Type 0 where
  pub at : FramePlace
  pub is_at : frame_at stays numbers frame ≡ Some at
  pub stay : StaySeen
  pub stay_is : slice_get stays at.stay ≡ Some stay
  pub seen : FrameSeen
  pub seen_is : slice_get stay.frames at.frame ≡ Some seen

-- where it stands, by the first of the stays
abbrev placed_in : List StaySeen → ℕ → List ℕ → ℕ → Option StaySeen → Option FramePlace
placed_in stays n numbers frame o =
    cond (nat_lt frame (length (frames_of o))) (Some (record { stay = n; frame = frame })) (frame_at stays numbers (frame - length (frames_of o)))

-- so each does that was received over them
pub placed : (stays : List StaySeen) (numbers : List ℕ) (frame : ℕ) → frame < length (frames_in (stays_numbered stays numbers)) → IsPlaced stays numbers frame
placed stays [] frame h = absurd (omega (arith, h))
placed stays (n ∷ numbers) frame h = go (slice_get stays n) refl h (λ k less. placed stays numbers k less)
  where
    go : (o : Option StaySeen) → slice_get stays n ≡ o → frame < length (frames_in (cons_option o (stays_numbered stays numbers)))
        → ((k : ℕ) → k < length (frames_in (stays_numbered stays numbers)) → IsPlaced stays numbers k) → IsPlaced stays (n ∷ numbers) frame
    go None e less later =
        let p = later frame less in
        let none : placed_in stays n numbers frame None ≡ frame_at stays numbers frame = grind arith in
        record { at = p.at; is_at = ap (placed_in stays n numbers frame) e ∙ none ∙ p.is_at; stay = p.stay; stay_is = p.stay_is; seen = p.seen; seen_is = p.seen_is }
    go (Some stay) e less later = elim (cases_lt frame (length stay.frames)) [
      | inl within ↦
          (let (seen, seen_is) = element_at stay.frames frame within in
          let at : FramePlace = record { stay = n; frame = frame } in
          let here : placed_in stays n numbers frame (Some stay) ≡ Some at = grind (arith, within) in
          record { at = at; is_at = ap (placed_in stays n numbers frame) e ∙ here; stay = stay; stay_is = e; seen = seen; seen_is = seen_is })
      | inr past ↦
          (let rest = frames_in (stays_numbered stays numbers) in
          let p = later (frame - length stay.frames) (omega (arith, less, length-append stay.frames rest)) in
          let next : placed_in stays n numbers frame (Some stay) ≡ frame_at stays numbers (frame - length stay.frames) = grind (arith, past) in
          record { at = p.at; is_at = ap (placed_in stays n numbers frame) e ∙ next ∙ p.is_at; stay = p.stay; stay_is = p.stay_is; seen = p.seen; seen_is = p.seen_is })
    ]

-- ---- stays

-- one of the numbers is that of the element
record IsNumbered {X : Type 0} (f : ℕ → Option X) (numbers : List ℕ) (k : ℕ) (x : X) : Type 0 where
  pub number : ℕ
  pub is_number : slice_get numbers k ≡ Some number
  pub is_there : f number ≡ Some x

module _ {X : Type 0} (f : ℕ → Option X) (test : ℕ → Bool) (given : (n : ℕ) → test n ≡ true → (x : X) × (f n ≡ Some x)) where
  -- where each number that passes has an element, each of the elements has its number
  numbered : (ns : List ℕ) (k : ℕ) (x : X) → slice_get (filter_map f (filter test ns)) k ≡ Some x → IsNumbered f (filter test ns) k x
  numbered [] k x h = absurd (none-some x h)
  numbered (n ∷ ns) k x h = go (test n) refl h (λ j at. numbered ns j x at)
    where
      first : (y : X) → f n ≡ Some y → (j : ℕ) → slice_get (y ∷ filter_map f (filter test ns)) j ≡ Some x
          → ((j : ℕ) → slice_get (filter_map f (filter test ns)) j ≡ Some x → IsNumbered f (filter test ns) j x) → IsNumbered f (n ∷ filter test ns) j x
      first y is zero at later = record { number = n; is_number = refl; is_there = is ∙ at }
      first y is (suc j) at later = let more = later j at in record { number = more.number; is_number = more.is_number; is_there = more.is_there }

      go : (b : Bool) → test n ≡ b → slice_get (filter_map f (cond b (n ∷ filter test ns) (filter test ns))) k ≡ Some x
          → ((j : ℕ) → slice_get (filter_map f (filter test ns)) j ≡ Some x → IsNumbered f (filter test ns) j x) → IsNumbered f (cond b (n ∷ filter test ns) (filter test ns)) k x
      go false e at later = later k at
      go true e at later =
          let (y, is) = given n e in
          first y is k (subst (λ o. slice_get (cons_option o (filter_map f (filter test ns))) k ≡ Some x) is at) later

-- a stay that names the session has its number among those of such stays
pub numbered_stay : (pid : Text) (stays : List StaySeen) (k : ℕ) (stay : StaySeen) → slice_get (stays_naming pid stays) k ≡ Some stay
    → (number : ℕ) × (slice_get (numbers_naming pid stays) k ≡ Some number) × (slice_get stays number ≡ Some stay)
numbered_stay pid stays k stay at =
    let it = numbered (slice_get stays) (λ n. option_map_or (stay_names_pid pid) (slice_get stays n) false) there (numbers_from 0 (length stays)) k stay (ap (λ ss. slice_get ss k) (numbered_naming pid stays) ∙ at) in
    (it.number, it.is_number, it.is_there)
  where
    some : (o : Option StaySeen) → option_map_or (stay_names_pid pid) o false ≡ true → (x : StaySeen) × (o ≡ Some x)
    some None passes = absurd (false≢true passes)
    some (Some x) passes = (x, refl)

    there : (n : ℕ) → option_map_or (stay_names_pid pid) (slice_get stays n) false ≡ true → (x : StaySeen) × (slice_get stays n ≡ Some x)
    there n passes = some (slice_get stays n) passes
