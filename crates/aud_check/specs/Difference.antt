-- Where what was received first parts from what was due, and what shows it.
use Rattle.std.specs.Prelude.{◌≡◌, ◌<◌, ◌+◌, ℕ, Bool, true, false, List, take, drop, Option, Some, None, if◌then◌else◌, nat_eq, slice_get}
use Rattle.std.specs.List.{AllPairs, common_prefix_len, list_any, position}
use Rattle.aud_check.specs.declared.difference.Difference.{Difference}
use Rattle.aud_check.specs.declared.difference.Difference.TheVariants.{Extra, Doubled, Swapped, Lost}

-- the position is one of these
abbrev pub has_position : List ℕ → ℕ → Bool
has_position positions p = list_any (λ q. nat_eq q p) positions

-- the first place at which it stands among them, if it is one of them
abbrev pub place_of : List ℕ → ℕ → Option ℕ
place_of positions p = position (λ q. nat_eq q p) positions

-- d was due at place i, and what was received there was due later: d comes after it, so many places on, or doesn't come
abbrev pub displaced : ℕ → ℕ → Option ℕ → Difference
displaced i d (Some n) = Swapped i d (i + 1 + n)
displaced i d None = Lost i d

-- g was received at place i, and is due, where d was: it was received before, first at this place; or d is missing there
abbrev pub instead : List ℕ → ℕ → ℕ → ℕ → Option ℕ → Difference
instead received i g d (Some first) = Doubled first i g
instead received i g d None = displaced i d (place_of (drop (i + 1) received) d)

-- g was received at place i, where d was due
abbrev pub difference_there : List ℕ → List ℕ → ℕ → ℕ → ℕ → Difference
difference_there received due i g d =
    if has_position due g then instead received i g d (place_of (take i received) g) else Extra i g

-- g was received at place i, after all that was due: it stands among that at this place first, or it isn't due at all
abbrev pub difference_past : ℕ → ℕ → Option ℕ → Difference
difference_past i g (Some first) = Doubled first i g
difference_past i g None = Extra i g

-- the difference at place i, by what was received and what was due there; none where the received list has ended
abbrev pub difference_by : List ℕ → List ℕ → ℕ → Option ℕ → Option ℕ → Option Difference
difference_by received due i None other = None
difference_by received due i (Some g) None = Some (difference_past i g (place_of due g))
difference_by received due i (Some g) (Some d) = Some (difference_there received due i g d)

-- the difference at place i
abbrev pub difference_at : List ℕ → List ℕ → ℕ → Option Difference
difference_at received due i = difference_by received due i (slice_get received i) (slice_get due i)

-- the first place where the received list ends, or has a position and the due list none or another one
abbrev pub agreed : List ℕ → List ℕ → ℕ
agreed received due = common_prefix_len nat_eq received due

-- the difference at that place; none where the received list ends there
abbrev pub difference : List ℕ → List ℕ → Option Difference
difference received due = difference_at received due (agreed received due)

-- ---- what it says

-- each position is less than all later ones
abbrev pub IsAscending : List ℕ → Type 0
IsAscending positions = AllPairs (λ p q. p < q) positions

-- up to the frame what was received is what was due; the frame is of this position; and that was not due
pub record IsExtra (received due : List ℕ) (frame position : ℕ) : Type 0 where
  pub agrees : take frame received ≡ take frame due
  pub is_there : slice_get received frame ≡ Some position
  pub not_due : has_position due position ≡ false

-- two frames, in the order of the tap, are of one position; that was due; and up to the second of them what was
-- received is what was due
pub record IsDoubled (received due : List ℕ) (first again position : ℕ) : Type 0 where
  pub agrees : take again received ≡ take again due
  pub in_order : first < again
  pub first_is : slice_get received first ≡ Some position
  pub again_is : slice_get received again ≡ Some position
  pub is_due : has_position due position ≡ true

-- up to the frame what was received is what was due; there this position was due, and the frame is of another one that
-- was due after it; a later frame is of it: the two came in the other order
pub record IsSwapped (received due : List ℕ) (frame position later : ℕ) : Type 0 where
  pub agrees : take frame received ≡ take frame due
  pub is_due : slice_get due frame ≡ Some position
  pub other : ℕ
  pub other_is : slice_get received frame ≡ Some other
  pub other_due : has_position (drop (frame + 1) due) other ≡ true
  pub in_order : frame < later
  pub later_is : slice_get received later ≡ Some position

-- up to the frame what was received is what was due; there this position was due, and the frame is of another one that
-- was due after it; and no frame is of it
pub record IsLost (received due : List ℕ) (frame position : ℕ) : Type 0 where
  pub agrees : take frame received ≡ take frame due
  pub is_due : slice_get due frame ≡ Some position
  pub other : ℕ
  pub other_is : slice_get received frame ≡ Some other
  pub other_due : has_position (drop (frame + 1) due) other ≡ true
  pub none : has_position received position ≡ false

-- the difference is as it says
abbrev pub IsDifference : List ℕ → List ℕ → Difference → Type 0
IsDifference received due (Extra frame position) = IsExtra received due frame position
IsDifference received due (Doubled first again position) = IsDoubled received due first again position
IsDifference received due (Swapped frame position later) = IsSwapped received due frame position later
IsDifference received due (Lost frame position) = IsLost received due frame position
