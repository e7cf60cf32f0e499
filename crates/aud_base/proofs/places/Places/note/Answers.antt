use Rattle.std.proofs.Common.{◌∙◌, ap, arith, bytes_eq, is_some, map}
use Rattle.std.specs.HashMap.{keys}
use Rattle.std.specs.String.{string_bytes}
use Rattle.std.proofs.lemmas.Map.Made.{is_some-lookup}
use Rattle.std.proofs.lemmas.Map.Text.{text_keys}
use Rattle.aud_base.proofs.FirstTexts.{text-known}
use Rattle.aud_base.proofs.places.Places.note.Goals as goal

pub returns-in_ok-push_last-in-Some-clause-places : goal.returns-in_ok-push_last-in-Some-clause-places
returns-in_ok-push_last-in-Some-clause-places c = λ q. grind (arith, text_keys)

pub returns-in_ok-push_last-in-Some-clause-texts : goal.returns-in_ok-push_last-in-Some-clause-texts
returns-in_ok-push_last-in-Some-clause-texts c =
    let old = c.args.self.now.by_text in
    ap (map string_bytes) (c.get_mut.follows.holds c.push_last.new.places).1
    ∙ text-known (keys old) c.args.text.now (ap is_some c.in-Some.ensures.value ∙ is_some-lookup (λ k. bytes_eq c.args.text.now (string_bytes k)) old.entries)
