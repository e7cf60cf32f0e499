-- The JSON of a record by its number.
use Rattle.std.proofs.Common.{◌≡◌, ◌∙◌, ℕ, List, Option, Some, None, IfSome, false, option_map, map, slice_get, refl, sym, ap}
use Rattle.std.proofs.lemmas.Option.{slice_get-map}
use Rattle.serde_json.specs.Data.{Data}
use Rattle.serde_json.specs.Written.{has_float}
use Rattle.aud_tap.specs.declared.records.Rec.{Rec}
use Rattle.aud_writer.specs.Written.{record_data}
use Rattle.aud_writer.proofs.JsonText.{record-plain}

-- the JSON of a tap's own records is that of the same as records of any tap
pub as_rec : {X : Type 0} (json : X → Data) (of : X → Rec) (xs : List X) (number : ℕ) → ((x : X) → json x ≡ record_data (of x))
    → option_map json (slice_get xs number) ≡ option_map record_data (slice_get (map of xs) number)
as_rec {X} json of xs number same = go (slice_get xs number) ∙ ap (option_map record_data) (sym (slice_get-map of xs number))
  where
    go : (x : Option X) → option_map json x ≡ option_map record_data (option_map of x)
    go None = refl
    go (Some x) = ap Some (same x)

-- the JSON of a record has no float
pub plain : {V : Type 0} (view : V → Data) (value : Option V) (rec : Option Rec) → option_map view value ≡ option_map record_data rec → IfSome value (λ v. has_float (view v) ≡ false)
plain view None rec e = tt
plain view (Some v) None e = absurd (cc)
plain view (Some v) (Some rec) e =
    let same : view v ≡ record_data rec = cc in
    rw same (record-plain rec).1
