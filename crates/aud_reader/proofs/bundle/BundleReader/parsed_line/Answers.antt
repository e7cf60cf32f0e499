use Rattle.std.proofs.Common.{◌∙◌, sym, ap}
use Rattle.aud_reader.specs.declared.line.Line.{Line}
use Rattle.aud_tap.specs.Names.{place_of}
use Rattle.aud_reader.specs.Record.{line_record}
use Rattle.aud_reader.specs.Bundle.{Reading}
use Rattle.aud_reader.specs.SoFar.{taps_so_far}
use Rattle.aud_reader.specs.Private.Packed.{rec_of}
use Rattle.aud_reader.proofs.KnownLines.{known-place}
use Rattle.aud_reader.proofs.bundle.BundleReader.parsed_line.Goals as goal

pub add_record-requires-in-Some-clause-own : goal.add_record-requires-in-Some-clause-own
add_record-requires-in-Some-clause-own c =
    let (name, reads) = rw c.in-Unplaced.is at c.requires.own in
    let own = ap (λ (l : Line). line_record l.bytes) c.line.view_is ∙ reads in
    let place = known-place (taps_so_far c.self.inside.taps) c.line.inside.bytes.now c.in-Some.place c.in-Some.field-0-1.now c.in-Some.ensures name (rec_of c.in-Unplaced.rec) own in
    (name, reads, sym (ap (λ (s : Reading). place_of s.taps name) c.self.view_is) ∙ place)
