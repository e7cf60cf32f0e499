use Rattle.std.proofs.Common.{arith, ◌≡◌, ◌<◌, ap, take, length, get_or}
use Rattle.std.proofs.lemmas.List.{take_more}
use Rattle.aud_session_facts.proofs.HeldLemmas.{record_told}
use Rattle.aud_session_facts.proofs.held.walk_turn.Goals as goal

pub loop-number-preserved : goal.loop-number-preserved
loop-number-preserved c =
    let items = c.own-number-items.result.now in
    let i = c.loop-number.number-index in
    let logs = c.args.logs.now in
    let node = c.turn.inside.node in
    let pid = c.args.pid.now in
    let some : i < length items = c.loop-number-test.true in
    let same : node ≡ c.args.turn.now.node = ap (λ t. t.node) c.turn.view_is in
    grind (arith, c.in_ok-walk_record.ensures, same, c.loop-number.invariant, record_told logs c.args.turn.now.node pid (take i items) (get_or items i 0) c.args.builder.now, take_more items i 0 some)
