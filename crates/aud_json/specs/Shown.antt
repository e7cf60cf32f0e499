-- What is shown of a JSON value: the members of an object; of a list among them its texts, and of an object among them
-- nothing but that it is one. A record looks at nothing else.
use Rattle.serde_json.specs.Data.{Data, null, boolean, number, string, array, object, Items, no_items, item, Members, no_members, member}

-- an item of a list: a text is shown, and all else as null
abbrev pub shown_item : Data → Data
shown_item null = null
shown_item (boolean b) = null
shown_item (number n) = null
shown_item (string s) = string s
shown_item (array ds) = null
shown_item (object ms) = null

-- each item of a list
abbrev pub shown_items : Items → Items
shown_items no_items = no_items
shown_items (item d ds) = item (shown_item d) (shown_items ds)

-- a member: a list with each of its items as it is shown, an object without its members, and all else as it is
abbrev pub shown_field : Data → Data
shown_field null = null
shown_field (boolean b) = boolean b
shown_field (number n) = number n
shown_field (string s) = string s
shown_field (array ds) = array (shown_items ds)
shown_field (object ms) = object no_members

-- each member of an object
abbrev pub shown_members : Members → Members
shown_members no_members = no_members
shown_members (member k d ms) = member k (shown_field d) (shown_members ms)

-- a value: an object with each of its members as it is shown, and all else as an object without members
abbrev pub shown : Data → Data
shown null = object no_members
shown (boolean b) = object no_members
shown (number n) = object no_members
shown (string s) = object no_members
shown (array ds) = object no_members
shown (object ms) = object (shown_members ms)
