use Rattle.std.proofs.Common.{◌∙◌, sym, ap, arith, bytes_eq, is_some}
use Rattle.std.specs.HashMap.{keys}
use Rattle.std.specs.Map.{keys_of}
use Rattle.std.specs.String.{string_bytes, string_eq}
use Rattle.std.proofs.lemmas.Map.Text.{text_keys}
use Rattle.indexmap.proofs.SetLemmas.{keys_insert_entry}
use Rattle.std.proofs.lemmas.Map.Made.{is_some-lookup}
use Rattle.aud_base.proofs.FirstTexts.{text-inserted}
use Rattle.aud_base.proofs.places.Places.keep.Goals as goal

pub returns-clause-places : goal.returns-clause-places
returns-clause-places c = λ q. grind (arith, text_keys)

pub returns-clause-texts : goal.returns-clause-texts
returns-clause-texts c =
    let old = c.args.self.now.by_text in
    text-inserted (keys old) (keys c.insert.new.self) c.in_ok-own.own c.args.text.now c.in_ok-own.ensures.ok
    (sym (ap is_some c.requires) ∙ is_some-lookup (λ k. bytes_eq c.args.text.now (string_bytes k)) old.entries)
    (ap keys_of c.in_ok-insert.ensures.entries ∙ keys_insert_entry string_eq old.entries c.in_ok-own.own _)
