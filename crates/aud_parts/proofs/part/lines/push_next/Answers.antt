use Rattle.std.proofs.Common.{◌≡◌, ◌++◌, ◌∷◌, [], ap, arith, length, length-append, slice_index, ◌+◌, ◌∙◌}
use Rattle.aud_input.specs.LineRuns.{lines_of_runs}
use Rattle.aud_parts.proofs.PushedLines.{next-more}
use Rattle.aud_parts.proofs.part.lines.push_next.Goals as goal

pub loop-number-preserved : goal.loop-number-preserved
loop-number-preserved c =
    let old = lines_of_runs c.loop-number.runs in
    let line = slice_index c.args.lines.now in
    let number = c.loop-number.number in
    let more : lines_of_runs c.push.new.self ≡ old ++ line (number + 1) ∷ [] = c.in_ok-push.ensures ∙ ap (λ n. old ++ n ∷ []) c.line_at.ensures in
    let one = ap length more ∙ length-append old (line (number + 1) ∷ []) in
    record {
      count = omega (arith, one, c.loop-number.invariant.count);
      lines = next-more line (lines_of_runs c.args.runs.now) old (lines_of_runs c.push.new.self) number c.loop-number.invariant.lines more;
    }
