use Rattle.std.specs.List.{AllZip}
use Rattle.aud_base.specs.Lists.{numbers_from}
use Rattle.aud_findings.specs.Private.ReadTaps.{IsReadBy}
use Rattle.aud_findings.proofs.prepared.read_taps.Given as goal

abbrev pub invariant-loop-place : goal.invariant-loop-place
invariant-loop-place l = AllZip (IsReadBy l.recording l.wanted l.orders) (numbers_from 0 l.place) l.taps.items
