use Rattle.std.proofs.Common.{arith}
use Rattle.std.specs.Map.{keys_of}
use Rattle.std.specs.String.{string_bytes}
use Rattle.std.proofs.lemmas.Option.{slice_get-map}
use Rattle.aud_base.proofs.places.Places.text.Goals as goal

pub returns : goal.returns
returns c =
    let entries = c.args.self.now.by_text.entries in
    grind (arith, slice_get-map string_bytes (keys_of entries) c.args.number, slice_get-map (λ entry. entry.0) entries c.args.number, c.get_index.ensures.entry)
