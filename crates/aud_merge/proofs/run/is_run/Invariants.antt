use Rattle.std.proofs.Common.{◌↔◌, drop}
use Rattle.aud_merge.specs.Runs.{IsRun}
use Rattle.aud_merge.specs.Private.RunsOn.{RunsOn}
use Rattle.aud_merge.proofs.run.is_run.Given as goal

abbrev pub invariant-loop-step : goal.invariant-loop-step
invariant-loop-step l = IsRun l.logs l.steps ↔ RunsOn l.logs l.state (drop l.step-index l.steps)
