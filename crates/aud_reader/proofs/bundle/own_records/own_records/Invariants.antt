use Rattle.std.proofs.Common.{List, ◌++◌, drop}
use Rattle.aud_reader.specs.declared.bundle.own_records.OwnRecord.{OwnRecord}
use Rattle.aud_reader.specs.Private.OwnRecords.{AreOfLines}
use Rattle.aud_reader.specs.SoFar.{taps_so_far}
use Rattle.aud_reader.proofs.bundle.own_records.own_records.Given as goal

abbrev pub invariant-loop-line : goal.invariant-loop-line
invariant-loop-line l = (rest : List OwnRecord) → AreOfLines (taps_so_far l.taps) (drop l.line-index l.lines) rest → AreOfLines (taps_so_far l.taps) l.lines (l.own.items ++ rest)
