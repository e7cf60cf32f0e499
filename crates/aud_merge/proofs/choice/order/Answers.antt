use Rattle.std.proofs.Common.{sym, ◌∙◌, arith, vec_len}
use Rattle.std.proofs.lemmas.Bool.{eqb-true, eqb-false}
use Rattle.aud_merge.proofs.Left.{left-on}
use Rattle.aud_merge.proofs.Shown.{chosen-allowed, walked-on, ends_in_run, ends_blocked}
use Rattle.aud_merge.proofs.choice.order.Goals as goal

pub take-requires-clause-allowed : goal.take-requires-clause-allowed
take-requires-clause-allowed c =
    chosen-allowed c.args.logs.now c.loop-steps.steps.items c.loop-steps.walk.state c.choose.new.self.state c.loop-steps.invariant.walked c.choose.ensures.state
    c.in_ok-step.field-0 c.in_ok-step.ensures.chosen c.in-Some.step c.in-Some.is

pub loop-steps-smaller : goal.loop-steps-smaller
loop-steps-smaller c =
    left-on c.args.logs.now c.loop-steps.walk.state c.choose.new.self.state c.take.new.self.state c.in-Some.step c.choose.ensures.state c.in_ok-take.ensures.state

pub loop-steps-preserved : goal.loop-steps-preserved
loop-steps-preserved c =
    record {
      walked = walked-on c.args.logs.now c.loop-steps.steps.items c.loop-steps.walk.state c.choose.new.self.state c.loop-steps.invariant.walked c.choose.ensures.state
          c.in_ok-step.field-0 c.in_ok-step.ensures.chosen c.in-Some.step c.in-Some.is c.take.new.self.state c.in_ok-take.ensures.state
          c.push.new.self.items c.in_ok-push.ensures.items;
      asleep = c.in_ok-take.ensures.asleep;
    }

pub returns-then-is_empty : goal.returns-then-is_empty
returns-then-is_empty c =
    ends_in_run c.args.logs.now c.loop-steps.steps.items c.loop-steps.walk.state c.choose.new.self.state c.loop-steps.invariant.walked c.choose.ensures.state
    c.in_ok-step.field-0 c.in_ok-step.ensures.chosen c.in_ok-fronts.fronts.items c.in_ok-fronts.ensures
    (let none = eqb-true (vec_len c.in_ok-fronts.fronts) 0 (sym c.is_empty.ensures ∙ c.if-is_empty.true) in
    let same = c.in_ok-fronts.fronts.ok.0 in
    omega arith)

pub returns : goal.returns
returns c =
    ends_blocked c.args.logs.now c.loop-steps.steps.items c.loop-steps.walk.state c.choose.new.self.state c.loop-steps.invariant.walked c.choose.ensures.state
    c.in_ok-step.field-0 c.in_ok-step.ensures.chosen c.in_default.is c.in_ok-fronts.fronts.items c.in_ok-fronts.ensures
    (λ e. eqb-false (vec_len c.in_ok-fronts.fronts) 0 (sym c.is_empty.ensures ∙ c.if-is_empty.false) (let same = c.in_ok-fronts.fronts.ok.0 in omega arith))
