-- Records that are noted by the turns that they begin and break.
use Rattle.std.specs.Prelude.{ℕ, Bool, true, List, length, set, Option, Some, None, if◌then◌else◌, nat_lt, slice_get}
use Rattle.aud_session_facts.specs.declared.marks.TurnMark.{TurnMark}
use Rattle.aud_session_facts.specs.declared.place.RecordPlace.{RecordPlace}
use Rattle.aud_causes.specs.Turns.{begun_turn}

-- the begins, where this is the first record that begins the turn, if the turn is one of them and none is noted
abbrev pub begin_at : ℕ → RecordPlace → Option (Option RecordPlace) → List (Option RecordPlace) → List (Option RecordPlace)
begin_at turn place (Some None) begins = set begins turn (Some place)
begin_at turn place _ begins = begins

-- the same, where it begins this turn, if it begins one
abbrev pub begin_in : Option ℕ → RecordPlace → List (Option RecordPlace) → List (Option RecordPlace)
begin_in None place begins = begins
begin_in (Some turn) place begins = begin_at turn place (slice_get begins turn) begins

-- with this record noted, if it is the first that begins its turn
abbrev pub with_begin : TurnMark → List (Option RecordPlace) → List (Option RecordPlace)
with_begin m begins = begin_in (begun_turn m.mark) m.place begins

-- whether turns are broken, where this one is, if there is one
abbrev pub break_in : Option ℕ → List Bool → List Bool
break_in None broken = broken
break_in (Some turn) broken = if nat_lt turn (length broken) then set broken turn true else broken
