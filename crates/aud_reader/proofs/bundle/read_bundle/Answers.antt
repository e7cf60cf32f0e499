use Rattle.std.proofs.Common.{ap, sym, ◌∙◌}
use Rattle.std.proofs.lemmas.List.{drop_all}
use Rattle.aud_reader.specs.Bundle.{taps_to_come}
use Rattle.aud_reader.proofs.bundle.read_bundle.Goals as goal

pub returns-clause-own_lines : goal.returns-clause-own_lines
returns-clause-own_lines c =
    c.finish.ensures.own_lines c.args.lines.now
    (ap (taps_to_come c.loop-line.reader) (sym (drop_all c.loop-line.line-index c.deref-line-items.result.now c.loop-line-test.false)) ∙ c.loop-line.invariant)

pub returns-clause-each_line : goal.returns-clause-each_line
returns-clause-each_line c =
    c.finish.ensures.each_line c.args.lines.now
    (ap (taps_to_come c.loop-line.reader) (sym (drop_all c.loop-line.line-index c.deref-line-items.result.now c.loop-line-test.false)) ∙ c.loop-line.invariant)
