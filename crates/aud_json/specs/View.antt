-- The JSON value that fields stand for.
use Rattle.std.specs.Prelude.{ℕ, List, [], ◌∷◌, Option, Some, None}
use Rattle.std.specs.Borrow.{Bor}
use Rattle.serde_json.specs.Data.{Data, null, boolean, number, string, array, object, Items, no_items, item, Members, no_members, put}
use Rattle.serde_json.specs.View.{number_view}
use Rattle.aud_json.specs.declared.field.Field.{Field}
use Rattle.aud_json.specs.declared.field.Field.TheVariants as field
use Rattle.aud_json.specs.declared.fields.Fields.{Fields}

-- an item of a list: a text, or null in place of what is none
abbrev pub text_view : Option (Bor (List ℕ)) → Data
text_view None = null
text_view (Some s) = string s.now

-- the items of a list
abbrev pub list_view : List (Option (Bor (List ℕ))) → Items
list_view [] = no_items
list_view (o ∷ os) = item (text_view o) (list_view os)

-- a field, with an object as one without members
abbrev pub field_view : Field → Data
field_view field.Null = null
field_view (field.Bool b) = boolean b
field_view (field.Number n) = number (number_view n)
field_view (field.Text s) = string s.now
field_view (field.List v) = array (list_view v.items)
field_view field.Object = object no_members

-- these members and then those of the fields, put in one after another, so that the last field of a key stays
abbrev pub members_from : List (Bor (List ℕ) × Field) → Members → Members
members_from [] found = found
members_from (m ∷ ms) found = members_from ms (put m.0.now (field_view m.1) found)

-- the members that the fields are
abbrev pub members_view : List (Bor (List ℕ) × Field) → Members
members_view ms = members_from ms no_members

-- the object that the fields are
abbrev pub view : Fields → Data
view f = object (members_view f.members.items)
