-- The turns of a session that have no begin or no break. Both are looked for in all turns, up to the last that a record
-- begins.
use Rattle.std.specs.Prelude.{ℕ, suc, ◌-◌, Bool, true, false, ◌&&◌, ◌||◌, ◌++◌, List, [], ◌∷◌, flat_map, length, map, Option, Some, None, option_to_list, nat_eq, nat_lt, if◌then◌else◌, slice_get}
use Rattle.std.specs.List.{find, list_any}
use Rattle.std.specs.Option.{option_map}
use Rattle.aud_base.specs.Lists.{numbers_from}
use Rattle.aud_session_facts.specs.declared.marks.Mark.{Mark}
use Rattle.aud_session_facts.specs.declared.marks.Mark.TheVariants as mark
use Rattle.aud_session_facts.specs.declared.marks.TurnMark.{TurnMark}
use Rattle.aud_session_facts.specs.declared.place.RecordPlace.{RecordPlace}
use Rattle.aud_causes.specs.declared.cause.Cause.{Cause}
use Rattle.aud_causes.specs.declared.cause.Cause.TheVariants.{MissingBack, MissingBreak, NodeNotTapped}

-- ---- the records of a turn

-- the turn that such a record begins, if it begins one
abbrev pub begun_turn : Mark → Option ℕ
begun_turn mark.Open = Some 0
begun_turn (mark.Back turn) = Some turn
begun_turn _ = None

-- the turn that it breaks, if it is a `break`
abbrev pub broken_turn : Mark → Option ℕ
broken_turn (mark.Break turn) = Some turn
broken_turn _ = None

-- it is a `break`, or the `gone`
abbrev pub is_end : Mark → Bool
is_end (mark.Break turn) = true
is_end mark.Gone = true
is_end _ = false

-- it is this turn
abbrev pub is_turn : ℕ → Option ℕ → Bool
is_turn turn None = false
is_turn turn (Some other) = nat_eq turn other

-- the first of these records that begins the turn
abbrev pub begin_of : List TurnMark → ℕ → Option RecordPlace
begin_of marks turn = option_map (λ (m : TurnMark). m.place) (find (λ (m : TurnMark). is_turn turn (begun_turn m.mark)) marks)

-- one of them breaks the turn
abbrev pub is_broken : List TurnMark → ℕ → Bool
is_broken marks turn = list_any (λ (m : TurnMark). is_turn turn (broken_turn m.mark)) marks

-- so many turns are known, where so many are, and this one is too
abbrev pub count_with : ℕ → Option ℕ → ℕ
count_with count None = count
count_with count (Some turn) = if nat_lt turn count then count else suc turn

-- so many turns there are up to the last that one of these begins, where so many are known
abbrev pub turn_count : ℕ → List TurnMark → ℕ
turn_count count [] = count
turn_count count (m ∷ marks) = turn_count (count_with count (begun_turn m.mark)) marks

-- ---- the last turn

-- the number of the last turn that one of these begins
abbrev pub last_turn : List TurnMark → ℕ
last_turn marks = turn_count 0 marks - 1

-- the first record that begins it
abbrev pub last_begin : List TurnMark → Option RecordPlace
last_begin marks = begin_of marks (last_turn marks)

-- after this record one in the same log ends a turn
abbrev pub is_ended : List TurnMark → RecordPlace → Bool
is_ended marks begin =
    list_any (λ (m : TurnMark). nat_eq m.place.node begin.node && nat_lt begin.number m.place.number && is_end m.mark) marks

-- ---- what is known of each turn

-- of each turn the first record that begins it
abbrev pub begins_of : List TurnMark → List (Option RecordPlace)
begins_of marks = map (begin_of marks) (numbers_from 0 (turn_count 0 marks))

-- of each turn whether a record breaks it
abbrev pub breaks_of : List TurnMark → List Bool
breaks_of marks = map (is_broken marks) (numbers_from 0 (turn_count 0 marks))

-- the turn that this record begins, where the next one stands in the same log and ends a turn
abbrev pub ended_turn : Option TurnMark → Option TurnMark → Option ℕ
ended_turn (Some m) (Some next) = if nat_eq next.place.node m.place.node && is_end next.mark then begun_turn m.mark else None
ended_turn _ _ = None

-- the same of the record with this number, and the next of these: those of a log stand together, in its order
abbrev pub ended_by : List TurnMark → ℕ → Option ℕ
ended_by marks number = ended_turn (slice_get marks number) (slice_get marks (suc number))

-- a record begins the turn, and the next one in its log ends it, by a `break` of whichever number, or the `gone`
abbrev pub is_ended_in : List TurnMark → ℕ → Bool
is_ended_in marks turn = list_any (λ number. is_turn turn (ended_by marks number)) (numbers_from 0 (length marks))

-- of each turn whether its log ends it so
abbrev pub ends_of : List TurnMark → List Bool
ends_of marks = map (is_ended_in marks) (numbers_from 0 (turn_count 0 marks))

-- ---- the causes

-- no log has the begin of a turn, nor its `break`: a log that breaks it is that of its node
abbrev pub is_untapped : Option RecordPlace → Option Bool → Bool
is_untapped None (Some false) = true
is_untapped _ _ = false

-- the first such, where it is so whether each turn is broken, and these are the begins of the turns from this one on
abbrev pub not_tapped : List Bool → ℕ → List (Option RecordPlace) → Option Cause
not_tapped broken turn [] = None
not_tapped broken turn (begin ∷ begins) =
    if is_untapped begin (slice_get broken turn) then Some (NodeNotTapped turn) else not_tapped broken (suc turn) begins

-- the first turn that no log begins, where these are the begins of the turns from this one on; past them all there is
-- another
abbrev pub unbegun : ℕ → List (Option RecordPlace) → ℕ
unbegun turn [] = turn
unbegun turn (None ∷ begins) = turn
unbegun turn (Some begin ∷ begins) = unbegun (suc turn) begins

-- the turn is past this one
abbrev pub is_past_turn : ℕ → Option ℕ → Bool
is_past_turn turn None = false
is_past_turn turn (Some other) = nat_lt turn other

-- the record says that the session had this turn: it begins a later one; or it breaks this one, where one breaks the turn
-- before
abbrev pub is_after_begin : ℕ → Bool → Mark → Bool
is_after_begin turn broken m = is_past_turn turn (begun_turn m) || (broken && is_turn turn (broken_turn m))

-- the first of these records that does
abbrev pub after_begin : ℕ → Bool → List TurnMark → Option RecordPlace
after_begin turn broken marks = option_map (λ (m : TurnMark). m.place) (find (λ (m : TurnMark). is_after_begin turn broken m.mark) marks)

-- the begin of the first turn that no log begins is missing, where these are the turns' begins
abbrev pub missing_back : List TurnMark → List (Option RecordPlace) → Option Cause
missing_back marks begins =
    let turn = unbegun 0 begins in
    option_map (MissingBack turn) (after_begin turn (is_broken marks (turn - 1)) marks)

-- the recovery after this turn: that with the turn's number among these, where they match so many turns, of which each but
-- the first begins with one
abbrev pub recovery_after : ℕ → List ℕ → ℕ → Option ℕ
recovery_after count came turn = if nat_eq (length came) (count - 1) then slice_get came turn else None

-- no record breaks this turn, and its log doesn't end it, though the next one begins: where this is its begin, whether
-- it is broken, and ended, the next one's begin, and the recovery after it
abbrev pub missing_by : ℕ → Option (Option RecordPlace) → Option Bool → Option Bool → Option (Option RecordPlace) → Option ℕ → Option Cause
missing_by turn (Some (Some begin)) (Some false) (Some false) (Some (Some back)) stay = Some (MissingBreak turn begin back stay)
missing_by turn _ _ _ _ stay = None

-- the same of the turn with this number
abbrev pub missing_break : List (Option RecordPlace) → List Bool → List Bool → List ℕ → ℕ → Option Cause
missing_break begins broken ended came turn =
    missing_by turn (slice_get begins turn) (slice_get broken turn) (slice_get ended turn) (slice_get begins (suc turn)) (recovery_after (length begins) came turn)

-- of each turn
abbrev pub missing_breaks : List (Option RecordPlace) → List Bool → List Bool → List ℕ → List Cause
missing_breaks begins broken ended came = flat_map (λ turn. option_to_list (missing_break begins broken ended came turn)) (numbers_from 0 (length begins))

-- the causes: the first turn that no log begins or breaks, the first that lacks its begin, and all that lack their break,
-- where these are the begins of the turns, whether each is broken, and ended in its log, and the recoveries
abbrev pub missing_causes : List TurnMark → List (Option RecordPlace) → List Bool → List Bool → List ℕ → List Cause
missing_causes marks begins broken ended came =
    option_to_list (not_tapped broken 0 begins) ++ option_to_list (missing_back marks begins) ++ missing_breaks begins broken ended came
