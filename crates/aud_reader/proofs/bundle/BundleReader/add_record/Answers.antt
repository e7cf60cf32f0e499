use Rattle.std.proofs.Common.{◌∙◌, ◌∷◌, Some, ap}
use Rattle.aud_reader.specs.declared.line.Line.{Line}
use Rattle.aud_reader.specs.declared.fault.ReadFault.TheVariants.{Input}
use Rattle.aud_tap.specs.Names.{place_of}
use Rattle.aud_reader.specs.Bundle.{Reading, taps_to_come}
use Rattle.aud_reader.specs.SoFar.{taps_so_far}
use Rattle.aud_reader.proofs.KeptLemmas.{place-bound}
use Rattle.aud_reader.proofs.OwnRecordsLemmas.{line_added, line_refused}
use Rattle.aud_reader.proofs.TapLaws.{sound-line}
use Rattle.aud_reader.proofs.bundle.BundleReader.add_record.Goals as goal

pub push_record-requires-clause-place : goal.push_record-requires-clause-place
push_record-requires-clause-place c =
    let (name, reads, place) = c.requires.own in
    place-bound name (taps_so_far c.self.inside.taps) c.args.place (ap (λ (s : Reading). place_of s.taps name) c.self.view_is ∙ place)

pub invariant_of-self : goal.invariant_of-self
invariant_of-self c = λ none.
    let (name, reads, place) = c.requires.own in
    let is = c.in-Ok.ensures.taps c.args.line.now.bytes name (ap (λ (s : Reading). place_of s.taps name) c.self.view_is ∙ place) reads in
    (c.in-Ok.ensures.keeps, sound-line _ _ c.args.line.now.bytes (c.self.invariant none).1 is)

pub returns-in-Ok-clause-taps : goal.returns-in-Ok-clause-taps
returns-in-Ok-clause-taps c = λ more some.
    let (name, reads, place) = c.requires.own in
    let is = c.in-Ok.ensures.taps c.args.line.now.bytes name (ap (λ (s : Reading). place_of s.taps name) c.self.view_is ∙ place) reads in
    let none = ap (λ (s : Reading). s.fault) c.self.view_is ∙ c.requires.open in
    line_added (taps_so_far c.self.inside.taps) (taps_so_far c.push_record.new.self) c.args.line.now _ more c.self.inside.fault none reads is
    ∙ ap (λ (s : Reading). taps_to_come s (c.args.line.now ∷ more)) c.self.view_is

pub returns-in-Err-Code-clause-taps : goal.returns-in-Err-Code-clause-taps
returns-in-Err-Code-clause-taps c = λ more some.
    let (name, reads, place) = c.requires.own in
    let is = rw c.in-Err-Code.field-0-is at (c.in-Err-Code.ensures.taps c.args.line.now.bytes name (ap (λ (s : Reading). place_of s.taps name) c.self.view_is ∙ place) reads) in
    let none = ap (λ (s : Reading). s.fault) c.self.view_is ∙ c.requires.open in
    let number = ap (λ (l : Line). l.number) c.line.view_is in
    line_refused (taps_so_far c.self.inside.taps) (taps_so_far c.push_record.new.self) c.args.line.now _ more c.self.inside.fault none reads c.in-Err-Code.code c.refuse.new.kept is
    (c.refuse.ensures.after ∙ ap (λ n. Some (Input n c.in-Err-Code.code)) number)
    ∙ ap (λ (s : Reading). taps_to_come s (c.args.line.now ∷ more)) c.self.view_is
