use Rattle.std.proofs.Common.{rules, ◌≡◌, ◌∙◌, sym, ap, true, Some, slice_get, bytes_eq}
use Rattle.aud_base.proofs.Lists.{got}
use Rattle.aud_input.proofs.PlacesLemmas.{place-at}
use Rattle.aud_input.proofs.index.LineIndex.place_of.Goals as goal

pub returns-in-Some : goal.returns-in-Some
returns-in-Some c =
    let guess = c.unwrap_or-guess.result in
    let there = got c.deref.result.now guess (Some c.in-Some.tap) c.in-Some.ensures.lookup.3 in
    let at : slice_get c.args.self.now.taps.items guess ≡ Some c.in-Some.tap.now = ap (λ ts. slice_get ts guess) (sym c.deref.ensures.value) ∙ sym there in
    let is : bytes_eq c.in-Some.tap.now.name c.args.name.now ≡ true = search rules in
    sym (place-at c.args.self.now.taps.items c.args.name.now guess c.in-Some.tap.now c.requires.once at is)
