use Rattle.std.proofs.Common.{arith, ◌≡◌, ◌∙◌, ◌<◌, Some, ap, take, length, map, MatchOption}
use Rattle.std.proofs.lemmas.List.{take_more, take_all}
use Rattle.std.proofs.lemmas.Option.{MatchOption-at_some}
use Rattle.std.proofs.lemmas.Result.{IfOk-weaker}
use Rattle.aud_rooms.specs.Turns.{slice_of}
use Rattle.aud_node.specs.Stream.{Text}
use Rattle.aud_rooms.specs.Spans.{AreSpansOfTurns, first_low}
use Rattle.aud_rooms.specs.Assigned.{starting, AreSpansOf}
use Rattle.aud_rooms.specs.Private.Walk.{walked_turns}
use Rattle.aud_rooms.proofs.Walk.{walked_turns-more, spans_of_walked}
use Rattle.aud_rooms.proofs.turn_spans.spans_of_turns.Goals as goal

pub loop-turn-preserved : goal.loop-turn-preserved
loop-turn-preserved c =
    let turns = c.args.turns.now in
    let i = c.loop-turn.turn-index in
    let logs = c.args.logs.now in
    let pid = c.args.pid.now in
    let begun = starting c.args.sid.now (first_low (map (slice_of logs) turns)) in
    let turn = c.turn-item.result in
    let some : i < length turns = c.loop-turn-test.true in
    grind (arith, c.in_ok-walk_turn.ensures, c.loop-turn.invariant, walked_turns-more logs pid (take i turns) turn begun, take_more turns i turn some, c.turn-item.is)

pub returns : goal.returns
returns c =
    let turns = c.args.turns.now in
    let i = c.loop-turn.turn-index in
    let logs = c.args.logs.now in
    let pid = c.args.pid.now in
    let sid = c.args.sid.now in
    let begun = starting sid (first_low (map (slice_of logs) turns)) in
    let all : c.loop-turn.builder ≡ Some (walked_turns logs pid turns begun) =
    c.loop-turn.invariant ∙ ap (λ ts. Some (walked_turns logs pid ts begun)) (take_all i turns c.loop-turn-test.false) in
    IfOk-weaker c.finish.result
    (λ spans. MatchOption c.loop-turn.builder ⊥ (λ given. AreSpansOf given spans.items))
    (λ spans. (nsp : Text) → AreSpansOfTurns logs.stream (record { pid = pid; sid = sid; nsp = nsp }) (map (slice_of logs) turns) spans.items)
    (λ spans are nsp. spans_of_walked logs pid sid nsp turns c.requires spans.items
    (MatchOption-at_some ⊥ (λ given. AreSpansOf given spans.items) (walked_turns logs pid turns begun) all are))
    c.finish.ensures.spans
