use Rattle.std.proofs.Common.{◌≡◌, None}
use Rattle.aud_reader.specs.SoFar.{taps_so_far}
use Rattle.aud_reader.proofs.LineSteps.{taps_at_end}
use Rattle.aud_reader.proofs.TapLaws.{first_with_name}
use Rattle.aud_reader.proofs.OwnLines.{own_lines, each_line}
use Rattle.aud_reader.proofs.bundle.BundleReader.finish.Goals as goal

pub returns-clause-names : goal.returns-clause-names
returns-clause-names c =
    let none : c.self.inside.fault ≡ None = cc in
    rw c.in_ok-close.ensures (first_with_name (taps_so_far c.self.inside.taps) (c.self.invariant none).1.names)

pub returns-clause-own_lines : goal.returns-clause-own_lines
returns-clause-own_lines c = λ lines is.
    let none : c.self.inside.fault ≡ None = cc in
    rw c.in_ok-close.ensures (own_lines lines _ (taps_at_end _ (taps_so_far c.self.inside.taps) _ lines c.self.view_is none is))

pub returns-clause-each_line : goal.returns-clause-each_line
returns-clause-each_line c = λ lines is.
    let none : c.self.inside.fault ≡ None = cc in
    rw c.in_ok-close.ensures (each_line lines _ (c.self.invariant none).1.names (taps_at_end _ (taps_so_far c.self.inside.taps) _ lines c.self.view_is none is))
