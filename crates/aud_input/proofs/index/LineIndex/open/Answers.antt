use Rattle.std.proofs.Common.{◌≡◌, ◌∙◌, ◌++◌, ◌∷◌, [], length, sym, ap, arith}
use Rattle.aud_input.specs.TapLines.{NamedLine, TapLines}
use Rattle.aud_input.proofs.PlacesLemmas.{places-put, with_line-new, once-with_line}
use Rattle.aud_input.proofs.index.LineIndex.open.Goals as goal

pub returns-clause-taps : goal.returns-clause-taps
returns-clause-taps c =
    let line : NamedLine = record { number = c.args.number; name = c.args.name.now } in
    c.in_ok-push.ensures.items
    ∙ ap (λ t. c.args.self.now.taps.items ++ t ∷ []) c.in_ok-tap.ensures
    ∙ sym (with_line-new c.args.self.now.taps.items line c.requires.first)

pub returns-clause-keeps : goal.returns-clause-keeps
returns-clause-keeps c =
    let ts = c.args.self.now.taps.items in
    let line : NamedLine = record { number = c.args.number; name = c.args.name.now } in
    let t : TapLines = record { name = c.args.name.now; numbers = c.args.number ∷ [] } in
    let put : c.push.new.self.items ≡ ts ++ t ∷ [] = c.in_ok-push.ensures.items ∙ ap (λ u. ts ++ u ∷ []) c.in_ok-tap.ensures in
    let sized : c.len-place.result ≡ length ts = omega (arith, c.len-place.ensures, c.args.self.now.taps.ok.0) in
    record {
      places = λ text. rw put (places-put c.args.self.now.places c.insert.new.self ts t c.in_ok-key.key c.len-place.result c.in_ok-key.ensures.ok sized c.in_ok-insert.ensures.updates c.requires.keeps.places c.requires.first text);
      once = rw (put ∙ sym (with_line-new ts line c.requires.first)) (once-with_line ts line c.requires.keeps.once);
    }
