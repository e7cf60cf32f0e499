-- The turns of a session whose records are a chain of turns.
use Rattle.std.specs.Prelude.{ℕ, zero, suc, ◌-◌, nat_lt, List, flat_map, Option, Some, None, option_to_list, if◌then◌else◌, slice_get}
use Rattle.std.specs.Option.{option_and_then}
use Rattle.std.specs.Str.{bytes_eq}
use Rattle.aud_tap.specs.declared.records.NodeRec.{NodeRec}
use Rattle.aud_tap.specs.declared.records.NodeRec.TheVariants.{Opened, Broke, Gone}
use Rattle.aud_tap.specs.declared.records.NodeRec.TheVariants as recs
use Rattle.aud_node.specs.Cluster.{Cluster, node_log}
use Rattle.aud_node.specs.Stream.{Text}
use Rattle.aud_rooms.specs.Turns.{Turn, End}
use Rattle.aud_rooms.specs.Turns as chain
use Rattle.aud_cert.specs.Certificate.{TurnSeen, turn_at}
use Rattle.aud_input.specs.TapLines.{TapLines}
use Rattle.aud_explanation.specs.declared.turn.TurnBegin.TheVariants.{Open, Back}
use Rattle.aud_findings.specs.declared.timeline.span.TurnSpan.{TurnSpan}
use Rattle.aud_findings.specs.declared.timeline.span.Ends.{Ends}
use Rattle.aud_findings.specs.declared.timeline.span.Ends.TheVariants.{ByBreak, ByGone, ByLog}
use Rattle.aud_findings.specs.ShownTurn.{ShownTurn, span_shown}

-- how a turn of the session ends, where this is the last of its records: by the session's `break` or `gone`, or else
-- with the log
abbrev pub end_of : Text → Option NodeRec → Ends
end_of pid (Some (Broke other turn)) = if bytes_eq other pid then ByBreak else ByLog
end_of pid (Some (Gone other)) = if bytes_eq other pid then ByGone else ByLog
end_of pid _ = ByLog

-- the turn of these records, of which this is the first, and this the last: none where the first is no `open` and no
-- `back`
abbrev pub span_between : Turn → Option NodeRec → Option NodeRec → Option TurnSpan
span_between t (Some (Opened pid sid nsp)) last =
    Some (record { turn = 0; begin = Open; node = t.node; first = t.from; last = t.to - 1; ends = end_of pid last })
span_between t (Some (recs.Back pid turn)) last =
    Some (record { turn = turn; begin = Back; node = t.node; first = t.from; last = t.to - 1; ends = end_of pid last })
span_between t _ last = None

-- the turn that stands there in the logs, if it has records
abbrev pub chain_span : Cluster → Turn → Option TurnSpan
chain_span c t =
    if nat_lt t.from t.to then span_between t (slice_get (node_log c t.node) t.from) (slice_get (node_log c t.node) (t.to - 1)) else None

-- what is shown of the turns, in their order
abbrev pub turns_shown : Cluster → List TapLines → List TurnSeen → List ShownTurn
turns_shown c lines turns = flat_map (λ t. option_to_list (option_and_then (span_shown c lines) (chain_span c (turn_at c t)))) turns

-- ---- turn k of a chain

-- how its last record ends it
abbrev pub ends_as : End → Ends
ends_as chain.ByBreak = ByBreak
ends_as chain.ByGone = ByGone
ends_as chain.ByLog = ByLog

-- turn k of a chain, which stands there and ends so: turn 0 begins with the `open`, each later one with a `back`
abbrev pub chain_turn : ℕ → Turn → End → TurnSpan
chain_turn zero t end = record { turn = 0; begin = Open; node = t.node; first = t.from; last = t.to - 1; ends = ends_as end }
chain_turn (suc k) t end = record { turn = suc k; begin = Back; node = t.node; first = t.from; last = t.to - 1; ends = ends_as end }
