-- JSON of bytes, and of values that are put one after another.
use Rattle.std.proofs.Common.{◌≡◌, ℕ, List, [], ◌∷◌, ◌++◌, Some, None, Ok, Err, refl, ap, inl, inr}
use Rattle.std.specs.Str.{IsUtf8, is_utf8}
use Rattle.std.proofs.lemmas.Bool.{cases_Bool}
use Rattle.std.proofs.lemmas.Str.{is_utf8-from_IsUtf8, IsUtf8-from_is_utf8}
use Rattle.serde_json.specs.Data.{Data, Items, no_items, item}
use Rattle.serde_json.specs.Read.{read}
use Rattle.serde_json.specs.View.{view, items_view}
use Rattle.serde_json.specs.declared.value.Value.{Value}
use Rattle.aud_tap.specs.Json.{json_or}

-- the bytes were read
pub json_or-read : {E : Type 0} (fault : E) (bytes : List ℕ) (d : Data) → IsUtf8 bytes × (read bytes ≡ Some d) → json_or fault bytes ≡ Ok d
json_or-read fault bytes d h = rw (is_utf8-from_IsUtf8 bytes h.0, h.1) refl

-- the bytes were refused
pub json_or-refused : {E : Type 0} (fault : E) (bytes : List ℕ) → (IsUtf8 bytes → read bytes ≡ None) → json_or fault bytes ≡ Err fault
json_or-refused fault bytes h = elim (cases_Bool (is_utf8 bytes)) [
  | inl text ↦ rw (text, h (IsUtf8-from_is_utf8 bytes text)) refl
  | inr other ↦ rw other refl
]

-- the items with one more at the end
abbrev pub with_last : Items → Data → Items
with_last no_items last = item last no_items
with_last (item d ds) last = item d (with_last ds last)

-- one value more
pub items_view-push : (vs : List Value) (v : Value) → items_view (vs ++ v ∷ []) ≡ with_last (items_view vs) (view v)
items_view-push [] v = refl
items_view-push (w ∷ vs) v = ap (item (view w)) (items_view-push vs v)
