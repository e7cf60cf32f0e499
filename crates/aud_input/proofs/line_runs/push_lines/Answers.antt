use Rattle.aud_input.proofs.LineRunsLemmas.{run-line}
use Rattle.aud_input.proofs.line_runs.push_lines.Goals as goal

pub loop-place-preserved : goal.loop-place-preserved
loop-place-preserved c =
    run-line c.args.lines.now.items c.push.new.self.items c.loop-place.lines.items c.args.run.first c.loop-place.place c.saturating_add.result
    c.in_ok-push.ensures.items c.saturating_add.ensures c.loop-place.invariant
