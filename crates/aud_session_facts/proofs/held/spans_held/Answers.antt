use Rattle.std.proofs.Common.{◌<◌, length, map, take, arith}
use Rattle.aud_cert.specs.Certificate.{turn_at}
use Rattle.aud_rooms.specs.Assigned.{starting}
use Rattle.aud_session_facts.proofs.HeldLemmas.{places-more, walked_turns-more}
use Rattle.aud_session_facts.proofs.held.spans_held.Goals as goal

pub loop-turn-preserved : goal.loop-turn-preserved
loop-turn-preserved c =
    let turns = c.args.turns.now in
    let i = c.loop-turn.turn-index in
    let logs = c.args.logs.now in
    let pid = c.args.pid.now in
    let begun = starting c.args.sid.now c.args.after in
    let turn = c.turn-item.result in
    let some : i < length turns = c.loop-turn-test.true in
    grind (arith, c.in_ok-walk_turn.ensures, c.turn_place.ensures, c.loop-turn.invariant, walked_turns-more logs pid (map (turn_at logs) (take i turns)) (turn_at logs turn) begun, places-more logs turns i turn some c.turn-item.is)
