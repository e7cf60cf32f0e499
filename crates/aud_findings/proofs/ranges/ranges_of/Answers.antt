use Rattle.std.proofs.Common.{◌≡◌, ◌+◌, ◌-◌, ◌∙◌, ◌++◌, suc, map, length, ap, sym, arith}
use Rattle.std.proofs.lemmas.List.{append-nil}
use Rattle.aud_findings.specs.Also.{past_ranges, ranges}
use Rattle.aud_findings.proofs.InRanges.{no_ranges, none_past}
use Rattle.aud_findings.proofs.ranges.ranges_of.Goals as goal

pub loop-turn-preserved : goal.loop-turn-preserved
loop-turn-preserved c =
    let most = c.args.most in
    let i = c.loop-turn._turn in
    let one : most - i ≡ suc (most - (i + 1)) = omega arith in (
      c.in_ok-rest.ensures.ranges (most - (i + 1)) ∙ ap (λ n. c.loop-turn.found.items ++ ranges n c.loop-turn.rest.now) (sym one) ∙ c.loop-turn.invariant.0,
      c.in_ok-rest.ensures.left (most - (i + 1)) ∙ ap (λ n. past_ranges n c.loop-turn.rest.now) (sym one) ∙ c.loop-turn.invariant.1,
    )

pub returns-clause-ranges : goal.returns-clause-ranges
returns-clause-ranges c =
    let none : c.args.most - c.loop-turn._turn ≡ 0 = omega arith in
    sym (append-nil c.loop-turn.found.items)
    ∙ ap (λ rs. c.loop-turn.found.items ++ rs) (sym (no_ranges c.loop-turn.rest.now) ∙ ap (λ n. ranges n c.loop-turn.rest.now) (sym none))
    ∙ c.loop-turn.invariant.0

pub returns-clause-left : goal.returns-clause-left
returns-clause-left c =
    let none : c.args.most - c.loop-turn._turn ≡ 0 = omega arith in
    ap length (sym (none_past c.loop-turn.rest.now) ∙ ap (λ n. past_ranges n c.loop-turn.rest.now) (sym none) ∙ c.loop-turn.invariant.1)
