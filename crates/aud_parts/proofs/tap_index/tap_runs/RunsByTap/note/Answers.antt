use Rattle.std.proofs.Common.{◌≡◌, ◌∙◌, None, Some, ap, slice_get, sym}
use Rattle.aud_parts.specs.IndexSoFar.{place_in}
use Rattle.aud_parts.proofs.NotedLemmas.{last-place, place-there}
use Rattle.aud_parts.proofs.LookLemmas.{noted-new, noted-there}
use Rattle.aud_parts.proofs.tap_index.tap_runs.RunsByTap.note.Goals as goal

pub returns-then-is_last : goal.returns-then-is_last
returns-then-is_last c = λ keeps.
    let old = c.args.self.now in
    let name = c.args.name.now in
    let at = last-place old.taps.items old.last name keeps.once (sym c.is_last.ensures ∙ c.if-is_last.true) in
    let found = place-there old.taps.items name old.last at in
    noted-there c.push.result old c.push.new.self name c.args.line old.last at keeps (c.push.ensures.taps found.0 found.1) c.push.ensures.last c.push.ensures.places

pub returns-in-Some : goal.returns-in-Some
returns-in-Some c = λ keeps.
    let old = c.args.self.now in
    let name = c.args.name.now in
    let place = c.in-Some.place in
    let at : place_in old.taps.items name ≡ Some place =
    sym (keeps.places name) ∙ ap (λ xs. slice_get xs 0) (sym c.of.ensures) ∙ sym c.first.ensures.value ∙ sym c.copied.ensures ∙ c.in-Some.is in
    let found = place-there old.taps.items name place at in
    noted-there c.push-in-Some.result old c.push-in-Some.new.self name c.args.line place at keeps (c.push-in-Some.ensures.taps found.0 found.1) c.push-in-Some.ensures.last c.push-in-Some.ensures.places

pub returns-in-None : goal.returns-in-None
returns-in-None c = λ keeps.
    let old = c.args.self.now in
    let name = c.args.name.now in
    let none : place_in old.taps.items name ≡ None =
    sym (keeps.places name) ∙ ap (λ xs. slice_get xs 0) (sym c.of.ensures) ∙ sym c.first.ensures.value ∙ sym c.copied.ensures ∙ c.in-None.is in
    noted-new c.open.result old c.open.new.self name c.args.line none keeps c.open.ensures.taps c.open.ensures.last c.open.ensures.places
