use Rattle.std.proofs.Common.{List, drop}
use Rattle.std.specs.List.{flat_map}
use Rattle.aud_reader.specs.declared.line.Line.{Line}
use Rattle.aud_parts.specs.Private.TapsRead.{HoldsLines, IsReading, held_lines}
use Rattle.aud_parts.proofs.tap_index.tap_reading.read_held.Given as goal

-- the lines that are left are still to come
abbrev pub invariant-loop-run : goal.invariant-loop-run
invariant-loop-run l = (lines : List Line) → HoldsLines lines l.held → IsReading lines l.reading (flat_map held_lines (drop l.run-index l.held))
