use Rattle.std.proofs.Common.{◌≡◌, ◌+◌, refl, arith}
use Rattle.aud_input.proofs.LineRunsLemmas.{run-joined}
use Rattle.aud_input.proofs.line_runs.joined.Goals as goal

pub returns-clause-lines : goal.returns-clause-lines
returns-clause-lines c =
    let both : c.in_ok-checked_add-2.field-0 ≡ c.args.before.count + c.args.after.count = omega (arith, c.in_ok-checked_add-2.ensures) in
    let goes : c.args.before.first + c.args.before.count ≡ c.args.after.first = omega (arith, c.in_ok-checked_add.ensures, c.if-branch-after.false) in
    run-joined c.args.before c.args.after c.in_ok-checked_add-2.field-0 c.args.before.first refl both goes
