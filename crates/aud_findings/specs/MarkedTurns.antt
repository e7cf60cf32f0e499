-- The turns of a session by the records that begin or end them, its marks, whether or not these are a chain of turns.
use Rattle.std.specs.Prelude.{ℕ, suc, ◌-◌, max, nat_eq, nat_lt, Bool, ◌||◌, List, [], ◌∷◌, flat_map, length, Option, Some, None, is_some, option_map, option_to_list, if◌then◌else◌, slice_get}
use Rattle.std.specs.Option.{option_and_then}
use Rattle.aud_node.specs.Lists.{numbers_from}
use Rattle.aud_node.specs.Cluster.{Cluster, node_log}
use Rattle.aud_session_facts.specs.declared.marks.Mark.{Mark}
use Rattle.aud_session_facts.specs.declared.marks.Mark.TheVariants as mark
use Rattle.aud_session_facts.specs.declared.marks.TurnMark.{TurnMark}
use Rattle.aud_input.specs.TapLines.{TapLines}
use Rattle.aud_explanation.specs.declared.turn.TurnBegin.{TurnBegin}
use Rattle.aud_explanation.specs.declared.turn.TurnBegin.TheVariants.{Open, Back}
use Rattle.aud_findings.specs.declared.timeline.span.TurnSpan.{TurnSpan}
use Rattle.aud_findings.specs.declared.timeline.span.LastRecord.{LastRecord}
use Rattle.aud_findings.specs.declared.timeline.span.Ends.{Ends}
use Rattle.aud_findings.specs.declared.timeline.span.Ends.TheVariants.{ByBreak, ByGone, ByLog, Missing}
use Rattle.aud_findings.specs.InOrder.{in_order}
use Rattle.aud_findings.specs.ShownTurn.{ShownTurn, span_shown}

-- ---- where a turn begins

-- by which record the mark begins a turn
abbrev pub begins_by : Mark → Option TurnBegin
begins_by mark.Open = Some Open
begins_by (mark.Back turn) = Some Back
begins_by _ = None

-- the number of the turn that it begins; an `open` begins turn 0
abbrev pub turn_number : Mark → ℕ
turn_number (mark.Back turn) = turn
turn_number _ = 0

-- the greatest number of a turn that one of these marks begins, 0 where none does
abbrev pub greatest_turn : List TurnMark → ℕ
greatest_turn [] = 0
greatest_turn (m ∷ ms) = max (turn_number m.mark) (greatest_turn ms)

-- ---- where it ends

-- how the mark ends this turn of its session: the turn's own `break`, or the `gone`
abbrev pub ended_by : ℕ → Mark → Option Ends
ended_by turn (mark.Break other) = if nat_eq other turn then Some ByBreak else None
ended_by turn mark.Gone = Some ByGone
ended_by turn _ = None

-- the last record of a turn that no record ends: where another turn follows, the one with this number, and its end is
-- missing; else the last of the node's log
abbrev pub end_open : Bool → ℕ → ℕ → LastRecord
end_open is_followed before log_end =
    if is_followed then record { number = before; ends = Missing } else record { number = log_end; ends = ByLog }

-- the last record of a turn: the next mark on its node, where that ends it in this way; else the turn is open up to
-- that mark, which may begin another one
abbrev pub last_at : Bool → ℕ → TurnMark → Option Ends → LastRecord
last_at is_followed log_end next (Some ends) = record { number = next.place.number; ends = ends }
last_at is_followed log_end next None = end_open (is_some (begins_by next.mark) || is_followed) (next.place.number - 1) log_end

-- the last record of this turn, by the next mark on its node, if there is one, and the number of the log's last record
abbrev pub last_by : ℕ → Bool → ℕ → Option TurnMark → LastRecord
last_by turn is_followed log_end None = end_open is_followed log_end log_end
last_by turn is_followed log_end (Some next) = last_at is_followed log_end next (ended_by turn next.mark)

-- ---- the turns

-- the mark, if it is on this node
abbrev pub next_on : ℕ → Option TurnMark → Option TurnMark
next_on node None = None
next_on node (Some next) = if nat_eq next.place.node node then Some next else None

-- the number of the last record of the node at this place
abbrev pub last_number : Cluster → ℕ → ℕ
last_number c node = length (node_log c node) - 1

-- the turn that this mark begins, up to this last record
abbrev pub span_to : TurnMark → LastRecord → TurnBegin → TurnSpan
span_to m last begin =
    record { turn = turn_number m.mark; begin = begin; node = m.place.node; first = m.place.number; last = last.number; ends = last.ends }

-- the turn that this mark begins, if it does, where this is the next one on its node: another turn follows where its
-- number isn't the greatest
abbrev pub span_from : Cluster → ℕ → TurnMark → Option TurnMark → Option TurnSpan
span_from c greatest m next =
    option_map (span_to m (last_by (turn_number m.mark) (nat_lt (turn_number m.mark) greatest) (last_number c m.place.node) next)) (begins_by m.mark)

-- the turn that the mark with this number begins; marks count from 0, and stand node after node, and on each by number
abbrev pub mark_span : Cluster → ℕ → List TurnMark → ℕ → Option TurnSpan
mark_span c greatest marks number =
    option_and_then (λ (m : TurnMark). span_from c greatest m (next_on m.place.node (slice_get marks (suc number)))) (slice_get marks number)

-- what is shown of it
abbrev pub mark_shown : Cluster → List TapLines → ℕ → List TurnMark → ℕ → Option ShownTurn
mark_shown c lines greatest marks number = option_and_then (span_shown c lines) (mark_span c greatest marks number)

-- what is shown of the turns, in the order of the marks that begin them
abbrev pub turns_begun : Cluster → List TapLines → List TurnMark → List ShownTurn
turns_begun c lines marks = flat_map (λ number. option_to_list (mark_shown c lines (greatest_turn marks) marks number)) (numbers_from 0 (length marks))

-- the same by the numbers of the turns
abbrev pub marked_turns : Cluster → List TapLines → List TurnMark → List ShownTurn
marked_turns c lines marks = in_order (λ (t : ShownTurn). t.turn) (turns_begun c lines marks)
