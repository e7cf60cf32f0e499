use Rattle.std.proofs.Common.{◌∙◌, sym, [], List, ℕ}
use Rattle.std.specs.Borrow.{Bor}
use Rattle.aud_book.proofs.NameLemmas.{stands-again, stands-once}
use Rattle.aud_book.proofs.names.stand_once.Goals as goal

pub returns-then-stands_in : goal.returns-then-stands_in
returns-then-stands_in c =
    let blank : Bor (List ℕ) = record { ref_ptr = (0, 0); now = [] } in
    stands-again c.args.names.now c.loop-i.i blank c.loop-i-test.true c.loop-i.invariant (sym c.stands_in.ensures ∙ c.if-stands_in.true)

pub loop-i-preserved : goal.loop-i-preserved
loop-i-preserved c =
    let blank : Bor (List ℕ) = record { ref_ptr = (0, 0); now = [] } in
    stands-once c.args.names.now c.loop-i.i blank c.loop-i-test.true c.loop-i.invariant (sym c.stands_in.ensures ∙ c.if-stands_in.false)
