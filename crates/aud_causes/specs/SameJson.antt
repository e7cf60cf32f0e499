-- When two JSON values are the same.
use Rattle.std.specs.Prelude.{Bool, true, false, ◌&&◌, Option, Some, ℤ}
use Rattle.std.specs.Ordering.{int_eq}
use Rattle.std.specs.Str.{bytes_eq}
use Rattle.std.specs.Float.Ieee.{eq}
use Rattle.serde_json.specs.Data.{Num, Data, null, boolean, number, string, array, object, Items, no_items, item, Members, no_members, member}
use Rattle.serde_json.specs.Find.{as_integer, to_float}

abbrev pub same_integers : Option ℤ → Option ℤ → Bool → Bool
same_integers (Some a) (Some b) floats = int_eq a b
same_integers _ _ floats = floats

-- two whole numbers of 64 bits where they are one number, and others where their nearest doubles are
abbrev pub same_number : Num → Num → Bool
same_number a b = same_integers (as_integer a) (as_integer b) (eq (to_float a) (to_float b))

abbrev pub same_bool : Bool → Bool → Bool
same_bool true true = true
same_bool false false = true
same_bool _ _ = false

-- texts without their escapes, and members in any order; of a key that stands twice the last one counts
abbrev mutual
  pub same_value : Data → Data → Bool
  same_value null null = true
  same_value (boolean a) (boolean b) = same_bool a b
  same_value (number a) (number b) = same_number a b
  same_value (string a) (string b) = bytes_eq a b
  same_value (array a) (array b) = same_items a b
  same_value (object a) (object b) = same_members a b
  same_value _ _ = false

  pub same_items : Items → Items → Bool
  same_items no_items no_items = true
  same_items (item d ds) (item e es) = same_value d e && same_items ds es
  same_items _ _ = false

  pub same_members : Members → Members → Bool
  same_members no_members no_members = true
  same_members (member k d ms) (member l e ns) = bytes_eq k l && same_value d e && same_members ms ns
  same_members _ _ = false
