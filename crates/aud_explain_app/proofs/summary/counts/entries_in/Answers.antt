use Rattle.std.proofs.Common.{◌<◌, length, ap, arith}
use Rattle.std.proofs.lemmas.Grind.{common_steps}
use Rattle.aud_explain_app.proofs.Counting.{recoverable-more}
use Rattle.aud_explain_app.proofs.summary.counts.entries_in.Goals as goal
use Rattle.aud_explain_app.proofs.summary.counts.entries_in.Goals.{then-recoverable, else-recoverable}

pub loop-before-preserved : goal.loop-before-preserved
loop-before-preserved c =
    let stream = c.args.stream.now in
    let within : c.loop-before.before < length stream = omega (arith, ap length c.entries.ensures) in
    let more = recoverable-more stream c.loop-before.before within in
    elim c.if-recoverable.branch [ then-recoverable w ↦ grind (arith, common_steps) | else-recoverable w ↦ grind (arith, common_steps) ]
