-- The fields of a JSON object, by their types and forms.
use Rattle.std.specs.Prelude.{ℕ, List, [], ◌∷◌, Option, Some, None, option_and_then, option_map, ⊤, Result, Ok}
use Rattle.std.specs.Result.{result_ok}
use Rattle.base64.specs.GeneralPurpose.{decode_of}
use Rattle.base64.specs.Engines.{standard}
use Rattle.serde_json.specs.Data.{Data, Items, no_items, item}
use Rattle.serde_json.specs.Find.{get, as_str, as_array, as_number, as_u64, as_null}
use Rattle.aud_base.specs.Steps.{◌>>=◌, need, guard}
use Rattle.aud_tap.specs.Limits.{fits}
use Rattle.aud_tap.specs.Forms.{passing, is_id, is_namespace}
use Rattle.aud_tap.specs.Json.{text_at}
use Rattle.aud_reader.specs.declared.fault.InputCode.{InputCode}
use Rattle.aud_reader.specs.declared.fault.InputCode.TheVariants.{Field, Limit}

-- ---- a field alone, if it is there and is one

-- a whole number from 0 to 2^64 - 1
abbrev pub number_at : List ℕ → Data → Option ℕ
number_at key d = option_and_then as_u64 (option_and_then as_number (get key d))

-- an offset, a pid or a sid
abbrev pub id_at : List ℕ → Data → Option (List ℕ)
id_at key d = option_and_then (passing is_id) (text_at key d)

-- an offset, a pid or a sid, of at most so many bytes
unfoldable pub bounded_id_at : ℕ → List ℕ → Data → Result (List ℕ) InputCode
bounded_id_at most key d = do
  id ← need Field (id_at key d)
  id_fits ← guard Limit (fits most id)
  Ok id

-- a namespace
abbrev pub namespace_at : List ℕ → Data → Option (List ℕ)
namespace_at key d = option_and_then (passing is_namespace) (text_at key d)

-- null stands for none
abbrev pub if_null : Option ⊤ → Option (List ℕ) → Option (Option (List ℕ))
if_null (Some u) id = Some None
if_null None id = option_map Some id

-- an id, or null, and nothing else
abbrev pub id_or_null : Data → Option (Option (List ℕ))
id_or_null d = if_null (as_null d) (option_and_then (passing is_id) (as_str d))

-- an id or null, which must be there
abbrev pub id_or_null_at : List ℕ → Data → Option (Option (List ℕ))
id_or_null_at key d = option_and_then id_or_null (get key d)

-- the bytes that a text spells in base64 (RFC 4648, section 4): padded, and the unused bits zero
abbrev pub decoded : List ℕ → Option (List ℕ)
decoded text = result_ok (decode_of standard text)

-- bytes, as a text in base64
abbrev pub as_blob : Data → Option (List ℕ)
as_blob d = option_and_then decoded (as_str d)

-- bytes, as a text in base64
abbrev pub bytes_at : List ℕ → Data → Option (List ℕ)
bytes_at key d = option_and_then as_blob (get key d)

-- ---- a list of fields

-- what each of the items is, if all are something
abbrev pub all_items : {A : Type 0} → (Data → Option A) → Items → Option (List A)
all_items as_item no_items = Some []
all_items as_item (item d ds) = option_and_then (λ x. option_map (λ xs. x ∷ xs) (all_items as_item ds)) (as_item d)

-- a list that may be absent, which is the empty one
abbrev pub list_or_empty : {A : Type 0} → (Data → Option A) → Option Data → Option (List A)
list_or_empty as_item None = Some []
list_or_empty as_item (Some d) = option_and_then (all_items as_item) (as_array d)

-- a list of texts, empty where it is absent
abbrev pub texts_at : List ℕ → Data → Option (List (List ℕ))
texts_at key d = list_or_empty as_str (get key d)

-- a list of texts in base64, empty where it is absent
abbrev pub blobs_at : List ℕ → Data → Option (List (List ℕ))
blobs_at key d = list_or_empty as_blob (get key d)
