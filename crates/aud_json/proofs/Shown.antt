-- What is found in a value as it is shown.
use Rattle.std.proofs.Common.{◌≡◌, List, ℕ, Option, Some, None, option_map, option_and_then, Ordering, Less, Equal, Greater, refl, ap, ◌∙◌}
use Rattle.std.specs.Cmp.Lexicographic.{slice_cmp}
use Rattle.std.specs.Ordering.{match_ordering, nat_cmp}
use Rattle.serde_json.specs.Data.{Data, null, boolean, number, string, array, object, Members, no_members, member}
use Rattle.serde_json.specs.Find.{get, get_member, as_null, as_str, as_number, as_array}
use Rattle.aud_json.specs.Shown.{shown_item, shown_items, shown_field, shown_members, shown}

-- members chosen by an order, as they are shown
map-match_ordering : (o : Ordering) (a b c : Option Data) → match_ordering o (option_map shown_field a) (option_map shown_field b) (option_map shown_field c) ≡ option_map shown_field (match_ordering o a b c)
map-match_ordering Less a b c = refl
map-match_ordering Equal a b c = refl
map-match_ordering Greater a b c = refl

-- a member as it is shown
get_member-shown_field : (key : List ℕ) (ms : Members) → get_member key (shown_members ms) ≡ option_map shown_field (get_member key ms)
get_member-shown_field key no_members = refl
get_member-shown_field key (member k d ms) = rw (get_member-shown_field key ms) (map-match_ordering (slice_cmp nat_cmp key k) (get_member key ms) (Some d) (get_member key ms))

-- a member is looked up in what is shown as in the value
pub get-shown : (key : List ℕ) (d : Data) → get key (shown d) ≡ option_map shown_field (get key d)
get-shown key null = refl
get-shown key (boolean b) = refl
get-shown key (number n) = refl
get-shown key (string s) = refl
get-shown key (array ds) = refl
get-shown key (object ms) = get_member-shown_field key ms

-- a text is shown
pub as_str-shown_field : (d : Data) → as_str (shown_field d) ≡ as_str d
as_str-shown_field null = refl
as_str-shown_field (boolean b) = refl
as_str-shown_field (number n) = refl
as_str-shown_field (string s) = refl
as_str-shown_field (array ds) = refl
as_str-shown_field (object ms) = refl

-- a text among the items is shown
pub as_str-shown_item : (d : Data) → as_str (shown_item d) ≡ as_str d
as_str-shown_item null = refl
as_str-shown_item (boolean b) = refl
as_str-shown_item (number n) = refl
as_str-shown_item (string s) = refl
as_str-shown_item (array ds) = refl
as_str-shown_item (object ms) = refl

-- null is shown
pub as_null-shown_field : (d : Data) → as_null (shown_field d) ≡ as_null d
as_null-shown_field null = refl
as_null-shown_field (boolean b) = refl
as_null-shown_field (number n) = refl
as_null-shown_field (string s) = refl
as_null-shown_field (array ds) = refl
as_null-shown_field (object ms) = refl

-- a number is shown
pub as_number-shown_field : (d : Data) → as_number (shown_field d) ≡ as_number d
as_number-shown_field null = refl
as_number-shown_field (boolean b) = refl
as_number-shown_field (number n) = refl
as_number-shown_field (string s) = refl
as_number-shown_field (array ds) = refl
as_number-shown_field (object ms) = refl

-- of a list its items are shown
pub as_array-shown_field : (d : Data) → as_array (shown_field d) ≡ option_map shown_items (as_array d)
as_array-shown_field null = refl
as_array-shown_field (boolean b) = refl
as_array-shown_field (number n) = refl
as_array-shown_field (string s) = refl
as_array-shown_field (array ds) = refl
as_array-shown_field (object ms) = refl

-- ---- what a member is

-- a reader that a member as it is shown serves as well as the member
member-shown : {A : Type 0} (f : Data → Option A) → ((d : Data) → f (shown_field d) ≡ f d) → (o : Option Data) → option_and_then f (option_map shown_field o) ≡ option_and_then f o
member-shown f same None = refl
member-shown f same (Some d) = same d

-- and it reads the same from what is shown as from the value
pub at-shown : {A : Type 0} (f : Data → Option A) → ((d : Data) → f (shown_field d) ≡ f d) → (key : List ℕ) (d : Data) → option_and_then f (get key (shown d)) ≡ option_and_then f (get key d)
at-shown f same key d = ap (option_and_then f) (get-shown key d) ∙ member-shown f same (get key d)
