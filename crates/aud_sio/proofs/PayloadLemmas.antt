-- The last element of an array.
use Rattle.std.proofs.Common.{◌≡◌, ℕ, suc, ◌-◌, List, [], ◌∷◌, length, Option, Some, None, is_some, option_map, option_and_then, Err, refl, sym, arith}
use Rattle.std.specs.Borrow.{Bor}
use Rattle.std.specs.List.{slice_get}
use Rattle.serde_json.specs.Data.{Data, Items, no_items, item}
use Rattle.serde_json.specs.Find.{as_str, as_array}
use Rattle.serde_json.specs.Read.{read}
use Rattle.aud_json.specs.Shown.{shown_item, shown_items, shown_field}
use Rattle.aud_json.specs.View.{text_view, list_view}
use Rattle.aud_json.proofs.Shown.{as_str-shown_item, as_array-shown_field}
use Rattle.aud_sio.specs.declared.fault.SioFault.TheVariants.{Payload}
use Rattle.aud_sio.specs.declared.kind.PacketKind.{PacketKind}
use Rattle.aud_sio.specs.Payload.{last_item, last_of_payload, last_of_value}

-- the last item of a list is the one at its length less one
last_at : (o : Option (Bor (List ℕ))) (os : List (Option (Bor (List ℕ)))) → last_item (list_view (o ∷ os)) ≡ option_map text_view (slice_get (o ∷ os) (length os))
last_at o [] = refl
last_at o (p ∷ os) = last_at p os

pub last_item-view : (os : List (Option (Bor (List ℕ)))) → last_item (list_view os) ≡ option_map text_view (slice_get os (length os - 1))
last_item-view [] = refl
last_item-view (o ∷ os) = let e : suc (length os) - 1 ≡ length os = omega arith in rw e (last_at o os)

-- the text that an item is
pub text_of-view : (o : Option (Bor (List ℕ))) → option_map (λ s. s.now) o ≡ as_str (text_view o)
text_of-view None = refl
text_of-view (Some s) = refl

-- the last item as it is shown
last_item-shown : (ds : Items) → last_item (shown_items ds) ≡ option_map shown_item (last_item ds)
last_item-shown no_items = refl
last_item-shown (item d no_items) = refl
last_item-shown (item d (item e ds)) = last_item-shown (item e ds)

-- and the text that it is
text-shown : (o : Option Data) → option_and_then as_str (option_map shown_item o) ≡ option_and_then as_str o
text-shown None = refl
text-shown (Some d) = as_str-shown_item d

text_of-shown : (o : Option Items) → option_and_then as_str (option_and_then last_item (option_map shown_items o)) ≡ option_and_then as_str (option_and_then last_item o)
text_of-shown None = refl
text_of-shown (Some ds) = rw (last_item-shown ds) (text-shown (last_item ds))

-- whether there are items
is_some-shown : (o : Option Items) → is_some (option_map shown_items o) ≡ is_some o
is_some-shown None = refl
is_some-shown (Some ds) = refl

-- and so is the text at the end of a value that the kind takes
pub last_of_value-shown : (kind : PacketKind) (d : Data) → last_of_value kind (shown_field d) ≡ last_of_value kind d
last_of_value-shown kind d = rw (as_array-shown_field d, is_some-shown (as_array d), text_of-shown (as_array d)) refl

-- a payload, by the value that it is
pub last_of_payload-read : (kind : PacketKind) (text : List ℕ) (d : Data) → read text ≡ Some d → last_of_payload kind text ≡ last_of_value kind (shown_field d)
unfolding last_of_payload
last_of_payload-read kind text d e = rw e (sym (last_of_value-shown kind d))

-- and what is no JSON
pub last_of_payload-not_json : (kind : PacketKind) (text : List ℕ) → read text ≡ None → last_of_payload kind text ≡ Err Payload
unfolding last_of_payload
last_of_payload-not_json kind text e = rw e refl
