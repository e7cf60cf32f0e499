use Rattle.std.proofs.Common.{◌≡◌, ◌++◌, List, None, drop}
use Rattle.aud_reader.specs.declared.line.Line.{Line}
use Rattle.aud_reader.specs.Bundle.{taps_to_come}
use Rattle.aud_reader.proofs.bundle.BundleReader.each_line.Given as goal

-- the lines to come bring what all lines did
abbrev pub invariant-loop-line : goal.invariant-loop-line
invariant-loop-line l = record {
  going : l.self.fault ≡ None;
  taps : (more : List Line) → taps_to_come l.self (drop l.line-index l.lines ++ more) ≡ taps_to_come l.initial.self (l.lines ++ more);
}
