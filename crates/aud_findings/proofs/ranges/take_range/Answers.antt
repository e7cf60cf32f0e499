use Rattle.std.proofs.Common.{◌++◌, ◌∷◌, [], ◌∙◌, ap, sym}
use Rattle.std.proofs.lemmas.List.{append_assoc}
use Rattle.aud_findings.specs.Also.{ranges}
use Rattle.aud_findings.proofs.InRanges.{one_taken, past_taken, same_of_none, same_past_none}
use Rattle.aud_findings.proofs.ranges.take_range.Goals as goal

pub returns-in_default-clause-ranges : goal.returns-in_default-clause-ranges
returns-in_default-clause-ranges c more = ap (λ rs. c.args.found.now.items ++ rs) (same_of_none more c.args.positions.now c.in_default.ensures.cases)

pub returns-in_default-clause-left : goal.returns-in_default-clause-left
returns-in_default-clause-left c more = same_past_none more c.args.positions.now c.in_default.ensures.cases

pub returns-clause-ranges : goal.returns-clause-ranges
returns-clause-ranges c more =
    let (last, count) = c.run_from-last.result in
    let found = c.args.found.now.items in
    ap (λ rs. rs ++ ranges more c.split_at.result.1.now) c.in_ok-push.ensures.items
    ∙ append_assoc found (record { first = c.in-Some.first.now; last = last } ∷ []) (ranges more c.split_at.result.1.now)
    ∙ ap (λ rs. found ++ rs) (sym (one_taken more c.in-Some.first.now last count c.args.positions.now c.in-Some.others.now c.split_at.result.1.now
    c.in-Some.ensures.cases.0 c.run_from-last.ensures.last c.run_from-last.ensures.count c.split_at.ensures.back))

pub returns-clause-left : goal.returns-clause-left
returns-clause-left c more =
    let (last, count) = c.run_from-last.result in
    past_taken more c.in-Some.first.now last count c.args.positions.now c.in-Some.others.now c.split_at.result.1.now
    c.in-Some.ensures.cases.0 c.run_from-last.ensures.last c.run_from-last.ensures.count c.split_at.ensures.back
