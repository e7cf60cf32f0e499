use Rattle.std.proofs.Common.{◌≡◌, ◌+◌, ◌∙◌, length, sym, ap, arith}
use Rattle.std.proofs.lemmas.List.{length_push}
use Rattle.aud_maker.specs.Begun.{turn_begun}
use Rattle.aud_maker.proofs.BegunLemmas.{begun-more, none_past}
use Rattle.aud_maker.proofs.begun.begun_turns.Goals as goal

pub loop-number-preserved : goal.loop-number-preserved
loop-number-preserved c =
    let logs = c.args.logs.now in
    let turns = c.loop-number.turns.items in
    let count : length turns ≡ c.loop-number.number = c.loop-number.invariant.count in
    let here : 0 + length turns ≡ c.loop-number.number = omega (arith, count) in
    let next = ap (turn_begun logs c.args.nodes.now c.args.pid.now) here ∙ sym c.in-Some.ensures in
    record {
      begun = rw c.in_ok-push.ensures.items (begun-more logs c.args.nodes.now c.args.pid.now 0 turns c.in-Some.turn c.loop-number.invariant.begun next);
      count = rw c.in_ok-push.ensures.items (length_push turns c.in-Some.turn ∙ ap (λ n. n + 1) count);
    }

pub returns : goal.returns
returns c =
    let count = c.loop-number.invariant.count in
    record {
      begun = rw (← c.requires) c.loop-number.invariant.begun;
      no_more = none_past c.args.logs.now c.args.pid.now c.last_begun-last.result _ c.last_begun-last.ensures (omega (arith, count, c.from-number-end.ensures, c.loop-number-test.false));
    }
