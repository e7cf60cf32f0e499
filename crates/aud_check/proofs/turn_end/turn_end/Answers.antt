use Rattle.std.proofs.Common.{◌≡◌, ◌<◌, suc, min, length, get_or, sym, ap, subst, ◌∙◌, arith}
use Rattle.aud_node.specs.Cluster.{node_log}
use Rattle.aud_rooms.specs.Turns.{Turn}
use Rattle.aud_rooms.specs.TurnPlaces.{own_between}
use Rattle.aud_check.proofs.OwnEnd.{own_end, turn_end-own, below_end}
use Rattle.aud_check.proofs.turn_end.turn_end.Goals as goal

pub loop-number-init : goal.loop-number-init
loop-number-init c =
    let pid = c.args.pid.now in
    let k = c.args.turn in
    let place = c.args.place.now in
    let log = node_log c.args.logs.now place.node in
    let items = c.own_after_first-number-items.result.now in
    let to = ap (λ (t : Turn). t.to) c.place.view_is in
    let node = ap (λ (t : Turn). node_log c.args.logs.now t.node) c.place.view_is in
    let recs : c.in-Some.recs ≡ log = c.in-Some.ensures ∙ node in
    let last : c.min-last.result ≡ min place.to (length log) = c.min-last.ensures ∙ ap (λ n. min n c.len.result) to ∙ ap (min place.to) (c.len.ensures ∙ ap length recs) in
    turn_end-own pid k log place.from place.to c.requires.some c.requires.inside
    ∙ ap (λ n. own_end pid k log n (own_between log pid (suc place.from) n)) (sym last)
    ∙ ap (own_end pid k log c.min-last.result) (sym c.own_after_first-number-items.ensures)
    ∙ ap (λ rs. own_end pid k rs c.min-last.result items) (sym recs)

pub overflow_add-number : goal.overflow_add-number
overflow_add-number c =
    let place = c.args.place.now in
    let i = c.loop-number.number-index in
    let own = c.own_after_first-number-items.ensures in
    let inside = subst (λ ns. i < length ns) own c.loop-number-test.true in
    let below = subst (λ ns. get_or ns i 0 < c.min-last.result) (sym own) (below_end (node_log c.args.logs.now place.node) c.args.pid.now (suc place.from) c.min-last.result i inside) in
    omega (arith, below)
