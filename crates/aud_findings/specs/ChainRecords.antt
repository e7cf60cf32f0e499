-- The records that show that a session's are no chain of turns, and what each is shown for.
use Rattle.std.specs.Prelude.{◌++◌, ◌&&◌, Bool, false, List, map, Option, Some, None, option_to_list, nat_eq, if◌then◌else◌}
use Rattle.std.specs.List.{list_any}
use Rattle.std.specs.Option.{option_map}
use Rattle.aud_session_facts.specs.declared.marks.Mark.{Mark}
use Rattle.aud_session_facts.specs.declared.marks.Mark.TheVariants as mark
use Rattle.aud_session_facts.specs.declared.marks.TurnMark.{TurnMark}
use Rattle.aud_session_facts.specs.declared.misfit.Misfit.{Misfit}
use Rattle.aud_session_facts.specs.declared.misfit.Misfit.TheVariants.{NeverOpened, BegunTwice, MissingTurn, BeforeTurns, AfterTurn, InsideTurn, MissingBreak, StrayBreak, OtherBreak, BackAfterGone}
use Rattle.aud_session_facts.specs.declared.place.RecordPlace.{RecordPlace}
use Rattle.aud_rows.specs.declared.row.Role.{Role}
use Rattle.aud_rows.specs.declared.row.Role.TheVariants as role
use Rattle.aud_session_facts.specs.declared.shown.node_records.NodeRecord.{NodeRecord}

-- ---- the records that a misfit names

-- the record that the one at fault contradicts
abbrev pub earlier_at : Misfit → Option RecordPlace
earlier_at (BegunTwice turn first again) = Some first
earlier_at (AfterTurn end place) = Some end
earlier_at (InsideTurn begin place) = Some begin
earlier_at (MissingBreak turn begin back) = Some begin
earlier_at (StrayBreak turn begin broke back) = Some begin
earlier_at (OtherBreak turn begin broke) = Some begin
earlier_at (BackAfterGone gone back) = Some gone
earlier_at _ = None

-- the record that is at fault
abbrev pub fault_at : Misfit → Option RecordPlace
fault_at NeverOpened = None
fault_at (BegunTwice turn first again) = Some again
fault_at (MissingTurn turn back) = Some back
fault_at (BeforeTurns place) = Some place
fault_at (AfterTurn end place) = Some place
fault_at (InsideTurn begin place) = Some place
fault_at (MissingBreak turn begin back) = Some back
fault_at (StrayBreak turn begin broke back) = Some back
fault_at (OtherBreak turn begin broke) = Some broke
fault_at (BackAfterGone gone back) = Some back

-- ---- those that begin and end turns

-- what a record that begins or ends a turn is shown for
abbrev pub mark_role : Mark → Role
mark_role mark.Open = role.Back
mark_role (mark.Back turn) = role.Back
mark_role (mark.Break turn) = role.Break
mark_role mark.Gone = role.Break

-- such a record
abbrev pub turn_record : TurnMark → NodeRecord
turn_record m = record { place = m.place; role = mark_role m.mark }

-- ---- beside a misfit

-- there is a record, and it stands there
abbrev pub is_at : Option RecordPlace → RecordPlace → Bool
is_at None place = false
is_at (Some at) place = nat_eq at.node place.node && nat_eq at.number place.number

-- what a record that begins or ends a turn is shown for: that it does not fit, or that such a one contradicts it, or
-- else its turn
abbrev pub role_in : Misfit → TurnMark → Role
role_in misfit m =
    if is_at (fault_at misfit) m.place then role.Fault
    else if is_at (earlier_at misfit) m.place then role.Earlier
    else mark_role m.mark

-- it is the record that does not fit
abbrev pub is_fault_at : Misfit → TurnMark → Bool
is_fault_at misfit m = is_at (fault_at misfit) m.place

-- the record that does not fit, where it is none of these
abbrev pub other_at : Misfit → List TurnMark → Option RecordPlace
other_at misfit marks = if list_any (is_fault_at misfit) marks then None else fault_at misfit

-- these, and the record that does not fit, where it is none of them
abbrev pub chain_records : Misfit → List TurnMark → List NodeRecord
chain_records misfit marks =
    map (λ (m : TurnMark). record { place = m.place; role = role_in misfit m }) marks
    ++ option_to_list (option_map (λ place. record { place = place; role = role.Fault }) (other_at misfit marks))
