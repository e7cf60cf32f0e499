use Rattle.std.proofs.Common.{sym, ◌∙◌, length}
use Rattle.aud_findings.specs.BesideRows.{is_behind_at}
use Rattle.aud_findings.proofs.Numbers.{found_here, found_later, found_nowhere}
use Rattle.aud_findings.proofs.beside.first_behind.Goals as goal

pub returns-then-is_behind_at : goal.returns-then-is_behind_at
returns-then-is_behind_at c =
    sym (found_here (is_behind_at c.args.position c.args.turns.now) c.loop-number.number (length c.args.turns.now) c.loop-number-test.true (sym c.is_behind_at.ensures ∙ c.if-is_behind_at.true))
    ∙ c.loop-number.invariant

pub loop-number-preserved : goal.loop-number-preserved
loop-number-preserved c =
    sym (found_later (is_behind_at c.args.position c.args.turns.now) c.loop-number.number (length c.args.turns.now) c.loop-number-test.true (sym c.is_behind_at.ensures ∙ c.if-is_behind_at.false))
    ∙ c.loop-number.invariant

pub returns : goal.returns
returns c =
    sym (found_nowhere (is_behind_at c.args.position c.args.turns.now) c.loop-number.number (length c.args.turns.now) c.loop-number-test.false)
    ∙ c.loop-number.invariant
