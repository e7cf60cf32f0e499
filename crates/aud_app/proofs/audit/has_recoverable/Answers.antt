use Rattle.std.proofs.Common.{rules, ◌≡◌, ◌<◌, ◌+◌, true, false, length, sym, ap, arith}
use Rattle.aud_node.specs.AtPosition.{is_recoverable_at}
use Rattle.aud_app.proofs.SomeRecoverable.{found, one_more}
use Rattle.aud_app.proofs.audit.has_recoverable.Goals as goal

pub returns-then-recoverable : goal.returns-then-recoverable
returns-then-recoverable c =
    let stream = c.args.stream.now in
    let within : c.loop-before.before < length stream = omega (arith, ap length c.entries.ensures) in
    let is : is_recoverable_at stream (c.loop-before.before + 1) ≡ true = search rules in
    sym (found stream c.loop-before.before within is)

pub loop-before-preserved : goal.loop-before-preserved
loop-before-preserved c =
    let stream = c.args.stream.now in
    let within : c.loop-before.before < length stream = omega (arith, ap length c.entries.ensures) in
    let none : is_recoverable_at stream (c.loop-before.before + 1) ≡ false = search rules in
    rw (c.loop-before.invariant, none) at (one_more stream c.loop-before.before within)
