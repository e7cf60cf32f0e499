use Rattle.std.proofs.Common.{◌≡◌, ◌+◌, ◌-◌, ◌∙◌, sym, ap, arith}
use Rattle.aud_sim.specs.Delivery.{replayed}
use Rattle.aud_sim.proofs.Replays.{replayed_next}
use Rattle.aud_sim.proofs.delivery.replay.Goals as goal

pub loop-before-preserved : goal.loop-before-preserved
loop-before-preserved c =
    let before = c.loop-before.before in
    ap (replayed c.args.entries.now (before + 1) (c.args.to - (before + 1))) (sym c.in_ok-deliver.ensures)
    ∙ sym (replayed_next c.args.entries.now before c.args.to (record { lines = c.loop-before.bundle; client = c.loop-before.client }) c.loop-before-test.true)
    ∙ c.loop-before.invariant

pub returns : goal.returns
returns c =
    let none : c.args.to - c.loop-before.before ≡ 0 = omega (arith, c.loop-before-test.false) in
    sym c.loop-before.invariant
    ∙ ap (λ n. replayed c.args.entries.now c.loop-before.before n (record { lines = c.loop-before.bundle; client = c.loop-before.client })) none
