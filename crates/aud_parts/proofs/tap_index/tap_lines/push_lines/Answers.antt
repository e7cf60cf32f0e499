use Rattle.std.proofs.Common.{◌<◌, ◌∷◌, length, arith, ap, length-append}
use Rattle.aud_reader.proofs.LinesLemmas.{above_zero}
use Rattle.aud_parts.proofs.TapLines.{next_line, last_line, next_count, last_count}
use Rattle.aud_parts.proofs.tap_index.tap_lines.push_lines.Goals as goal

pub lines-preserved : goal.lines-preserved
lines-preserved c =
    let inv = c.lines.invariant in
    let found = c.in-Some.ensures.found in
    let size = length-append c.in-Some.text.now (10 ∷ c.in-Some.others.now) in
    let cut = ap length found.0 in
    let within = inv.within in
    record {
      within = omega (arith, c.saturating_add-next.ensures, within, size, cut);
      lines = λ small. next_line _ _ _ _ _ _ _ _ found.0 found.1 (omega (arith, c.saturating_add-next.ensures, within, size, cut, small)) c.in_ok-push_line.ensures (inv.lines small);
      count = λ small. next_count _ _ _ _ _ _ found.0 found.1 (omega (arith, c.saturating_add-next.ensures, within, size, cut, small)) (inv.count small);
    }

pub returns-clause-lines : goal.returns-clause-lines
returns-clause-lines c = λ small.
    let some : 0 < length c.lines.left.now = above_zero _ c.if-is_empty.ensures in
    last_line _ _ _ _ _ c.in_default.ensures.none some (c.in_ok-push_line-2.ensures) (c.lines.invariant.lines small)

pub returns-clause-next : goal.returns-clause-next
returns-clause-next c = λ small.
    let some : 0 < length c.lines.left.now = above_zero _ c.if-is_empty.ensures in
    let within = c.lines.invariant.within in
    last_count _ _ _ _ c.in_default.ensures.none some (omega (arith, c.saturating_add.ensures, within, some, small)) (c.lines.invariant.count small)
