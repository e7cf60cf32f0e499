use Rattle.std.proofs.Common.{◌≡◌, drop}
use Rattle.std.specs.List.{flat_map}
use Rattle.aud_reader.specs.Bundle.{taps_of, taps_to_come}
use Rattle.aud_book.specs.Taps.{seen_taps}
use Rattle.aud_book.specs.PostedLines.{lines_of_taps, named_lines, numbered}
use Rattle.aud_book.proofs.posted.read_posted.Given as goal

abbrev pub invariant-loop-i : goal.invariant-loop-i
invariant-loop-i l = taps_to_come l.reader (numbered l.number (flat_map named_lines (seen_taps (drop l.i l.posted.taps.items)))) ≡ taps_of (lines_of_taps (seen_taps l.posted.taps.items))
