use Rattle.std.proofs.Common.{◌∷◌, arith, ap, length, length-append}
use Rattle.aud_parts.proofs.ServerTextLemmas.{after-line, all-lines, no-line}
use Rattle.aud_parts.proofs.part.server_text.after_lines.Goals as goal

pub loop-line-preserved : goal.loop-line-preserved
loop-line-preserved c =
    let found = c.in-Some.ensures.found in
    let size = length-append c.in-Some.field-0-0.now (10 ∷ c.in-Some.others.now) in
    record {
      rest = λ lines rest whole count stands.
          after-line lines c.loop-line._line c.loop-line.left.now c.in-Some.field-0-0.now c.in-Some.others.now rest whole (omega (arith, c.loop-line-test.true, count))
          (c.loop-line.invariant.rest lines rest whole count stands) found.0 found.1;
      within = omega (arith, ap length found.0, size, c.loop-line.invariant.within);
    }

pub returns-in-None-clause-rest : goal.returns-in-None-clause-rest
returns-in-None-clause-rest c = λ lines rest whole count stands.
    absurd (no-line lines c.loop-line._line c.loop-line.left.now rest (omega (arith, c.loop-line-test.true, count)) (c.loop-line.invariant.rest lines rest whole count stands) c.in-None.ensures.none)

pub returns-clause-rest : goal.returns-clause-rest
returns-clause-rest c = λ lines rest whole count stands.
    all-lines lines c.loop-line._line c.loop-line.left.now rest (omega (arith, c.loop-line-test.false, count)) (c.loop-line.invariant.rest lines rest whole count stands)
