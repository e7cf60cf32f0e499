use Rattle.std.proofs.Common.{◌∙◌, ap}
use Rattle.aud_parts.specs.NamedLines.{part_of}
use Rattle.aud_parts.proofs.NamedLinesLemmas.{part-back, text-done}
use Rattle.aud_parts.proofs.named_lines.lines_text.Goals as goal

pub returns-clause-reads_back : goal.returns-clause-reads_back
returns-clause-reads_back c = λ is.
    ap part_of (text-done c.args.part.now c.as_slice-files.result.now c.loop-file.file-index _ c.loop-file-test.false c.as_slice-files.ensures c.loop-file.invariant)
    ∙ part-back c.args.part.now is
