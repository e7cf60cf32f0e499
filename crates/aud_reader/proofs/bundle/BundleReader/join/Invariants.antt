use Rattle.std.proofs.Common.{◌≡◌, ◌++◌, List, None, drop}
use Rattle.std.specs.List.{AllZip, flat_map}
use Rattle.aud_reader.specs.declared.line.Line.{Line}
use Rattle.aud_reader.specs.Bundle.{taps_to_come}
use Rattle.aud_reader.specs.Private.OwnRecords.{AreOfLines}
use Rattle.aud_reader.proofs.bundle.BundleReader.join.Given as goal

-- the records that are left are those of the parts to come, whose lines bring what all lines did
abbrev pub invariant-loop-records : goal.invariant-loop-records
invariant-loop-records l = record {
  going : l.self.fault ≡ None;
  own : AllZip (λ part records. AreOfLines l.self.taps part.now records.items) (drop l.number l.parts) l.records-iterator.rest.items;
  taps : (more : List Line) → taps_to_come l.self (flat_map (λ part. part.now) (drop l.number l.parts) ++ more) ≡ taps_to_come l.initial.self (flat_map (λ part. part.now) l.parts ++ more);
}
