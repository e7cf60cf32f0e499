use Rattle.std.proofs.Common.{◌∙◌, ◌+◌, ◌-◌, ◌/◌, ◌≤◌, ◌<◌, ℕ, suc, sym, ap, arith}
use Rattle.aud_node.specs.Cluster.{node_log}
use Rattle.aud_node.specs.Cursors.{cursor_at}
use Rattle.aud_node.proofs.RecordLemmas.{cursor_at-rises}
use Rattle.aud_merge.specs.ByTurns.{first_reaching}
use Rattle.aud_rooms.specs.Turns.{Turn}
use Rattle.aud_session_facts.proofs.Cursors.{passed_half, found_first}
use Rattle.aud_session_facts.proofs.search.first_reaching.Goals as goal

pub loop-low-preserved-then-cursor_at-position : goal.loop-low-preserved-then-cursor_at-position
loop-low-preserved-then-cursor_at-position c =
    let stream = c.args.logs.now.stream in
    let log = node_log c.args.logs.now c.turn.inside.node in
    let low = c.loop-low.low in
    let high = c.loop-low.high in
    let to = c.turn.inside.to in
    let middle : ℕ = low + (high - low) / 2 in
    let some : low < high = c.loop-low-test.true in
    let within = c.loop-low.invariant.within in
    let from : low ≤ middle = omega arith in
    let below : middle < high = omega (arith, some) in
    record {
      within = within;
      same = passed_half stream log c.args.position low to middle from (omega (arith, below, within)) (omega (arith, c.cursor_at.ensures, c.if-cursor_at-position.true)) ∙ c.loop-low.invariant.same;
      reaches = c.loop-low.invariant.reaches;
    }

pub returns-then-low-turn : goal.returns-then-low-turn
returns-then-low-turn c =
    let stream = c.args.logs.now.stream in
    let log = node_log c.args.logs.now c.turn.inside.node in
    let low = c.loop-low.low in
    let high = c.loop-low.high in
    let to = c.turn.inside.to in
    let done : high ≤ low = c.loop-low-test.false in
    let more : low < to = c.if-low-turn.true in
    let rises = cursor_at-rises stream log (suc high) (suc low) (omega arith) in
    let reaches : c.args.position ≤ cursor_at stream log (suc high) = c.loop-low.invariant.reaches (omega arith) in
    sym (found_first stream log c.args.position low (to - low) (omega arith) (omega (arith, rises, reaches)))
    ∙ c.loop-low.invariant.same
    ∙ ap (λ (t : Turn). first_reaching stream (node_log c.args.logs.now t.node) c.args.position t.from (t.to - t.from)) c.turn.view_is
