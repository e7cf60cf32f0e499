use Rattle.std.proofs.Common.{rules, ◌≤◌, sym, arith}
use Rattle.aud_cli.proofs.SizeLemmas.{number_named-some, number_named-none}
use Rattle.aud_cli.proofs.sizes.number_named.Goals as goal

pub returns-in_err-number-clause-number : goal.returns-in_err-number-clause-number
returns-in_err-number-clause-number c =
    let none = number_named-none 64 c.args.least c.args.most c.args.text.now c.parse.result (omega arith) c.parse.ensures.value.0 c.in_err-number.ensures.value in
    rw c.from_residual.ensures (sym none)

pub returns-then-contains-clause-number : goal.returns-then-contains-clause-number
returns-then-contains-clause-number c =
    let (low, high) : (c.args.least ≤ c.in_ok-number.number) × (c.in_ok-number.number ≤ c.args.most) = search rules in
    number_named-some 64 c.args.least c.args.most c.args.text.now c.parse.result c.in_ok-number.number c.parse.ensures.value.0 c.in_ok-number.ensures.value low high
