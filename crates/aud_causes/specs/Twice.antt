-- A turn for which two records take the session back.
use Rattle.std.specs.Prelude.{ℕ, Bool, true, false, not, ◌&&◌, ◌||◌, ◌++◌, List, [], ◌∷◌, count_by, length, Option, Some, None, if◌then◌else◌, nat_eq, nat_le, slice_get}
use Rattle.std.specs.Option.{option_and_then, option_map, option_or}
use Rattle.aud_session_facts.specs.declared.marks.Mark.{Mark}
use Rattle.aud_session_facts.specs.declared.marks.Mark.TheVariants as mark
use Rattle.aud_session_facts.specs.declared.marks.TurnMark.{TurnMark}
use Rattle.aud_session_facts.specs.declared.place.RecordPlace.{RecordPlace}
use Rattle.aud_causes.specs.declared.cause.Cause.{Cause}
use Rattle.aud_causes.specs.declared.cause.Cause.TheVariants.{TurnNotStored, RecoveredTwice, OpenedTwice}
use Rattle.aud_causes.specs.declared.twice.Twice.{Twice}
use Rattle.aud_causes.specs.Delivery.{cause_if, held}
use Rattle.aud_causes.specs.Turns.{is_turn}

-- the turn for which the record takes the session back, if it is a `back`
abbrev pub back_turn : Mark → Option ℕ
back_turn (mark.Back turn) = Some turn
back_turn _ = None

-- it is a `back`
abbrev pub is_back : Mark → Bool
is_back (mark.Back turn) = true
is_back _ = false

-- the two are one place
abbrev pub is_place : RecordPlace → RecordPlace → Bool
is_place a b = nat_eq a.node b.node && nat_eq a.number b.number

-- the turn, where another record than this is the first that begins it
abbrev pub begun_twice : ℕ → RecordPlace → Option (Option RecordPlace) → Option Twice
begun_twice turn again (Some (Some first)) = if is_place first again then None else Some (record { turn = turn; first = first; again = again })
begun_twice turn again _ = None

-- the record at this place takes the session back for the turn, and so does the one before it in the same log: that can't
-- be two turns, and one record is written twice
abbrev pub is_written_again : ℕ → RecordPlace → Option TurnMark → Bool
is_written_again turn place None = false
is_written_again turn place (Some before) = nat_eq before.place.node place.node && is_turn turn (back_turn before.mark)

-- the record takes the session back for a turn of which another one is the first begin, where these are the turns', and
-- this is the record before it; and it isn't that one, written again
abbrev pub twice_by : List (Option RecordPlace) → Option TurnMark → TurnMark → Option Twice
twice_by begins before m =
    option_and_then (λ turn. if is_written_again turn m.place before then None else begun_twice turn m.place (slice_get begins turn)) (back_turn m.mark)

-- ---- a second `open`

-- it is an `open`
abbrev pub is_open : Mark → Bool
is_open mark.Open = true
is_open _ = false

-- the record opens the session, and so did this one before it, if there is one
abbrev pub opened_after : Option RecordPlace → TurnMark → Option Cause
opened_after first m = if is_open m.mark then option_map (λ (f : RecordPlace). OpenedTwice f m.place) first else None

-- the last record so far that opens the session, after this record too
abbrev pub open_with : Option RecordPlace → TurnMark → Option RecordPlace
open_with first m = if is_open m.mark then Some m.place else first

-- of these records the first that opens a session that is open: where this one opened it before them, if it was opened
abbrev pub second_open : Option RecordPlace → List TurnMark → Option Cause
second_open first [] = None
second_open first (m ∷ marks) = option_or (opened_after first m) (second_open (open_with first m) marks)

-- two records open the session: the first two
abbrev pub opened_twice : List TurnMark → Option Cause
opened_twice marks = second_open None marks

-- ---- the causes

-- it is known of the turn, and so
abbrev pub is_so : Option Bool → Bool
is_so None = false
is_so (Some holds) = holds

-- the client came back at least as often as these records take the session back, where these are its recoveries
abbrev pub is_as_often : List TurnMark → List ℕ → Bool
is_as_often marks came = nat_le (count_by (λ (m : TurnMark). is_back m.mark) marks) (length came)

-- the client came back for each `back`, one after the other, or the log of a record that begins the turn ends it: so the
-- session went on from one of the two to the other
abbrev pub turn_not_stored : List Bool → Bool → Twice → Option Cause
turn_not_stored ended as_often t = cause_if (as_often || is_so (slice_get ended t.turn)) (TurnNotStored t.turn t.first t.again)

-- the causes, if there is such a turn: the turn was not stored with the session; two nodes took one stored session back
abbrev pub causes_of_twice : List Bool → Bool → Option Twice → List Cause
causes_of_twice ended as_often None = []
causes_of_twice ended as_often (Some t) =
    held (turn_not_stored ended as_often t ∷ cause_if (not (nat_eq t.first.node t.again.node)) (RecoveredTwice t.turn t.first t.again) ∷ [])

-- those of each of these records, where these are the turns' first begins, and whether their logs end them, and this is the
-- record before them, if there is one; the records of a log stand together, in its order
abbrev pub twice_causes : List (Option RecordPlace) → List Bool → Bool → Option TurnMark → List TurnMark → List Cause
twice_causes begins ended as_often before [] = []
twice_causes begins ended as_often before (m ∷ marks) =
    causes_of_twice ended as_often (twice_by begins before m) ++ twice_causes begins ended as_often (Some m) marks
