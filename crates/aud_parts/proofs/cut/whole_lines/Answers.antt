use Rattle.std.proofs.Common.{ℕ, List, ◌∙◌, ap, sym}
use Rattle.aud_parts.specs.Cut.{whole_lines}
use Rattle.aud_parts.proofs.CutLemmas.{with_lines, lines-more, lines-left}
use Rattle.aud_parts.proofs.cut.whole_lines.Goals as goal

pub lines-preserved : goal.lines-preserved
lines-preserved c =
    ap (λ (lines : List (List ℕ)). with_lines lines (whole_lines c.in-Some.rest.now)) c.in_ok-push.ensures.items
    ∙ lines-more c.lines.lines.items c.in-Some.line.now c.lines.left.now c.in-Some.rest.now (whole_lines c.args.text.now) c.in-Some.ensures.value c.lines.invariant

pub returns : goal.returns
returns c = lines-left c.lines.lines.items c.lines.left.now (whole_lines c.args.text.now) (sym c.is_empty.ensures ∙ c.if-is_empty.false) c.in_default.ensures.value c.lines.invariant
