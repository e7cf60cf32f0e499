use Rattle.std.proofs.Common.{arith}
use Rattle.aud_explanation.proofs.PlainFront.{laid-split, plain-boundary, after-plain}
use Rattle.aud_explanation.proofs.text.page.laid_front.Goals as goal

pub split_at-requires : goal.split_at-requires
split_at-requires c =
    let e = c.as_bytes.ensures.value in
    plain-boundary c.args.text.now c.front_len.result c.utf8.text (rw e at c.front_len.ensures.in_bytes) (rw e at c.front_len.ensures.plain)

pub returns-clause-utf8 : goal.returns-clause-utf8
returns-clause-utf8 c =
    let e = c.as_bytes.ensures.value in
    rw c.split_at.ensures.back (after-plain c.args.text.now c.front_len.result c.utf8.text (rw e at c.front_len.ensures.in_bytes) (rw e at c.front_len.ensures.plain))

pub returns-clause-laid : goal.returns-clause-laid
returns-clause-laid c =
    let e = c.as_bytes.ensures.value in
    laid-split c.args.column c.args.text.now c.split_at.result.0.now c.split_at.result.1.now c.front_len.result
    c.split_at.ensures.front c.split_at.ensures.back (omega arith) (rw e at c.front_len.ensures.plain) (rw e at c.front_len.ensures.whole)
