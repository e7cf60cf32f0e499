use Rattle.std.proofs.Common.{◌≡◌, ◌+◌, ◌++◌, List, map, drop}
use Rattle.aud_reader.specs.declared.line.Line.{Line}
use Rattle.aud_reader.specs.Bundle.{taps_to_come}
use Rattle.aud_book.specs.History.{texts}
use Rattle.aud_book.specs.Taps.{seen}
use Rattle.aud_book.specs.PostedLines.{named_line, named_lines, numbered}
use Rattle.aud_book.proofs.posted.read_tap.Given as goal

abbrev pub invariant-loop-i : goal.invariant-loop-i
invariant-loop-i l = record {
  number : l.number ≡ l.first + l.i;
  to_come : (more : List Line) → taps_to_come l.reader (numbered l.number (map (named_line l.tap.name.now) (texts (drop l.i l.tap.lines.items))) ++ more) ≡ taps_to_come l.fn.reader (numbered l.first (named_lines (seen l.tap)) ++ more);
}
