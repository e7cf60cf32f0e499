use Rattle.std.proofs.Common.{arith, [], List, ℕ}
use Rattle.std.specs.Borrow.{Bor}
use Rattle.aud_book.proofs.Taps.{both-more}
use Rattle.aud_book.proofs.Alike.{alike-at}
use Rattle.aud_book.proofs.lines.same_lines.Goals as goal

pub loop-i-preserved : goal.loop-i-preserved
loop-i-preserved c =
    let blank : Bor (List ℕ) = record { ref_ptr = (0, 0); now = [] } in
    both-more (λ l. l.now) (λ l. l.now) c.args.left.now c.args.right.now c.loop-i.i blank blank (omega arith) (omega arith) (c.is_line.ensures.same c.if-not-is_line.false) c.loop-i.invariant

pub returns-then-not-is_line-clause-other : goal.returns-then-not-is_line-clause-other
returns-then-not-is_line-clause-other c =
    let blank : Bor (List ℕ) = record { ref_ptr = (0, 0); now = [] } in
    λ e same. c.is_line.ensures.other c.if-not-is_line.true (alike-at (λ l. l.now) (λ l. l.now) c.args.left.now c.args.right.now c.loop-i.i blank blank (omega arith) (omega arith) same)
