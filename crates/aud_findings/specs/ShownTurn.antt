-- Turns of a session, as contracts see what a timeline shows of them: with the node's name as bytes; and what is shown of
-- one whose records are known.
use Rattle.std.specs.Prelude.{ℕ, suc, nat_lt, List, Option, Some, None, if◌then◌else◌, slice_get}
use Rattle.std.specs.Option.{option_and_then}
use Rattle.aud_tap.specs.declared.taps.Tap.{Tap}
use Rattle.aud_node.specs.Cluster.{Cluster}
use Rattle.aud_node.specs.NodeTap.{cursor_after}
use Rattle.aud_node.specs.NodeTaps.{node_at}
use Rattle.aud_node.specs.Stream.{Text}
use Rattle.aud_input.specs.TapLines.{TapLines, kept_line}
use Rattle.aud_explanation.specs.declared.turn.TurnShown.{TurnShown}
use Rattle.aud_explanation.specs.declared.turn.TurnBegin.{TurnBegin}
use Rattle.aud_explanation.specs.declared.turn.TurnEnd.{TurnEnd}
use Rattle.aud_explanation.specs.declared.turn.TurnEnd.TheVariants as shown
use Rattle.aud_findings.specs.declared.timeline.span.TurnSpan.{TurnSpan}
use Rattle.aud_findings.specs.declared.timeline.span.Ends.{Ends}
use Rattle.aud_findings.specs.declared.timeline.span.Ends.TheVariants.{ByBreak, ByGone, ByLog, Missing}

-- a turn: its number and its node; by which record it begins, on which line, and the node's cursor after that; the
-- first and the last position that the node took in it; and how it ends
pub record ShownTurn : Type 0 where
  pub turn : ℕ
  pub node : Text
  pub begin : TurnBegin
  pub begin_line : ℕ
  pub low : ℕ
  pub took : Option (ℕ × ℕ)
  pub end : TurnEnd

abbrev pub turn_seen : TurnShown → ShownTurn
turn_seen t = record { turn = t.turn; node = t.node.now; begin = t.begin; begin_line = t.begin_line; low = t.low; took = t.took; end = t.end }

-- ---- what is shown of a turn

-- the cursor of the node at this place after its record with this number; none where there is no such record
abbrev pub cursor_past : Cluster → ℕ → ℕ → Option ℕ
cursor_past c node number = option_and_then (λ log. cursor_after log number) (node_at c node)

-- the first and the last position that a node took from the one cursor to the other, none where it took none
abbrev pub took_between : ℕ → ℕ → Option (ℕ × ℕ)
took_between low high = if nat_lt low high then Some (suc low, high) else None

-- the first and the last position that a node took in a turn that begins at this cursor and ends so; where the end is
-- missing nobody knows how far the turn went
abbrev pub took_until : ℕ → TurnEnd → Option (ℕ × ℕ)
took_until low (shown.Break line high) = took_between low high
took_until low (shown.Gone line high) = took_between low high
took_until low (shown.Log line high) = took_between low high
took_until low shown.Missing = None

-- how a turn ends whose last record stands on this line and leaves this cursor; none where these are to be shown and
-- aren't known
abbrev pub end_shown : Ends → Option ℕ → Option ℕ → Option TurnEnd
end_shown ByBreak (Some line) (Some high) = Some (shown.Break line high)
end_shown ByGone (Some line) (Some high) = Some (shown.Gone line high)
end_shown ByLog (Some line) (Some high) = Some (shown.Log line high)
end_shown Missing line high = Some shown.Missing
end_shown _ _ _ = None

-- the turn of this span, where there are the node's tap, the line of the first record, the cursor there, and an end
abbrev pub turn_told : TurnSpan → Option Tap → Option ℕ → Option ℕ → Option TurnEnd → Option ShownTurn
turn_told span (Some tap) (Some line) (Some low) (Some end) =
    Some (record {
      turn = span.turn;
      node = tap.name;
      begin = span.begin;
      begin_line = line;
      low = low;
      took = took_until low end;
      end = end;
    })
turn_told span _ _ _ _ = None

-- what is shown of the turn of this span
abbrev pub span_shown : Cluster → List TapLines → TurnSpan → Option ShownTurn
span_shown c lines span =
    turn_told span (slice_get c.taps span.node) (kept_line lines span.node span.first) (cursor_past c span.node span.first)
    (end_shown span.ends (kept_line lines span.node span.last) (cursor_past c span.node span.last))
