use Rattle.std.proofs.Common.{◌≡◌, ◌∙◌, Some, set, sym, ap, arith}
use Rattle.aud_input.specs.TapLines.{NamedLine}
use Rattle.aud_input.specs.Private.Kept.{place_in}
use Rattle.aud_input.proofs.PlacesLemmas.{place-within, with_line-at, place-with_line, once-with_line}
use Rattle.aud_input.proofs.index.LineIndex.note.Goals as goal

pub index_mut-requires : goal.index_mut-requires
index_mut-requires c =
    let at : place_in c.args.self.now.taps.items c.args.name.now ≡ Some c.in-Some.place = sym c.place_of.ensures ∙ c.in-Some.is in
    let within = place-within c.args.self.now.taps.items c.args.name.now c.in-Some.place at in
    omega (arith, within, c.args.self.now.taps.ok.0)

pub returns-in_ok-push-in-Some-clause-taps : goal.returns-in_ok-push-in-Some-clause-taps
returns-in_ok-push-in-Some-clause-taps c =
    let ts = c.args.self.now.taps.items in
    let line : NamedLine = record { number = c.args.number; name = c.args.name.now } in
    let at : place_in ts c.args.name.now ≡ Some c.in-Some.place = sym c.place_of.ensures ∙ c.in-Some.is in
    ap (set ts c.in-Some.place) c.in_ok-push-in-Some.ensures ∙ sym (with_line-at ts line c.in-Some.place c.index_mut.result.now at (sym c.index_mut.ensures.value))

pub returns-in_ok-push-in-Some-clause-keeps : goal.returns-in_ok-push-in-Some-clause-keeps
returns-in_ok-push-in-Some-clause-keeps c =
    let ts = c.args.self.now.taps.items in
    let line : NamedLine = record { number = c.args.number; name = c.args.name.now } in
    let at : place_in ts c.args.name.now ≡ Some c.in-Some.place = sym c.place_of.ensures ∙ c.in-Some.is in
    let put = returns-in_ok-push-in-Some-clause-taps c in
    record {
      places = λ text. c.requires.places text ∙ sym (place-with_line ts line c.in-Some.place at text) ∙ ap (λ us. place_in us text) (sym put);
      once = rw put (once-with_line ts line c.requires.once);
    }
