use Rattle.aud_merge.proofs.Merged.{run-goes_on, run-is_over}
use Rattle.aud_merge.proofs.run.is_run.Goals as goal

pub loop-step-preserved : goal.loop-step-preserved
loop-step-preserved c =
    run-goes_on c.args.logs.now c.args.steps.now c.args.steps.now c.loop-step.state c.apply.new.state c.loop-step.step-index _ c.loop-step.invariant c.loop-step-test.true
    c.in_ok-apply.ensures.taken

pub returns : goal.returns
returns c =
    run-is_over c.args.logs.now c.args.steps.now c.args.steps.now c.loop-step.state c.loop-step.step-index c.is_finished.result c.loop-step.invariant c.loop-step-test.false
    c.is_finished.ensures
