use Rattle.std.proofs.Common.{◌≡◌, ◌++◌, List, None, drop}
use Rattle.aud_reader.specs.declared.line.Line.{Line}
use Rattle.aud_reader.specs.Bundle.{taps_to_come}
use Rattle.aud_reader.specs.Private.OwnRecords.{AreOfLines}
use Rattle.aud_reader.proofs.bundle.BundleReader.join_part.Given as goal

-- the records that are left are those of the lines to come, which bring what all lines did
abbrev pub invariant-loop-record : goal.invariant-loop-record
invariant-loop-record l = record {
  going : l.self.fault ≡ None;
  own : AreOfLines l.self.taps (drop l.number l.lines) l.record-iterator.rest.items;
  taps : (more : List Line) → taps_to_come l.self (drop l.number l.lines ++ more) ≡ taps_to_come l.initial.self (l.lines ++ more);
}
