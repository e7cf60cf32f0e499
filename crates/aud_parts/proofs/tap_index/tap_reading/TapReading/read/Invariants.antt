use Rattle.std.proofs.Common.{◌≡◌, ◌++◌, List, drop}
use Rattle.aud_reader.specs.declared.line.Line.{Line}
use Rattle.aud_reader.specs.Bundle.{taps_to_come}
use Rattle.aud_parts.proofs.tap_index.tap_reading.TapReading.read.Given as goal

-- the lines that are left are still to come
abbrev pub invariant-loop-line : goal.invariant-loop-line
invariant-loop-line l = record {
  lines : l.self.lines ≡ l.initial.self.lines;
  taps : (more : List Line) → taps_to_come l.self.reader (drop l.line-index l.lines ++ more) ≡ taps_to_come l.initial.self.reader (l.lines ++ more);
}
