-- Members that are outside their limits.
use Rattle.std.specs.Prelude.{ℕ, ◌+◌, nat_lt, List, [], ◌∷◌, length, codes, Option, Some, None, option_and_then, if◌then◌else◌}
use Rattle.std.specs.Option.{option_or}
use Rattle.serde_json.specs.Data.{Data, Items, no_items, item}
use Rattle.serde_json.specs.Find.{get, as_str, as_array}
use Rattle.aud_tap.specs.Limits.{fits, max_attachments, max_id, max_namespace, max_offset, max_room, max_rooms, max_turn}
use Rattle.aud_tap.specs.Json.{text_at}
use Rattle.aud_reader.specs.Fields.{number_at}
use Rattle.aud_refusals.specs.declared.member.Member.{Member}
use Rattle.aud_refusals.specs.declared.member.Member.TheVariants as member
use Rattle.aud_refusals.specs.declared.excess.Excess.{Excess}
use Rattle.aud_refusals.specs.declared.excess.Excess.TheVariants.{Length, Count, Item, Number}

-- a text that is empty, or has more bytes than it may have
abbrev pub length_excess : Member → ℕ → Option (List ℕ) → Option Excess
length_excess m most None = None
length_excess m most (Some text) = if fits most text then None else Some (Length m (length text) most)

-- the same of an item of a list; items count from 1
abbrev pub text_excess : Member → ℕ → ℕ → Option (List ℕ) → Option Excess
text_excess m place most None = None
text_excess m place most (Some text) = if fits most text then None else Some (Item m place (length text) most)

-- how many items there are
abbrev pub items_count : Items → ℕ
items_count no_items = 0
items_count (item d ds) = 1 + items_count ds

-- the first of these items that is empty or too long, where the first has this place
abbrev pub items_excess : Member → ℕ → ℕ → Items → Option Excess
items_excess m place most no_items = None
items_excess m place most (item d ds) = option_or (text_excess m place most (as_str d)) (items_excess m (place + 1) most ds)

-- more items than there may be
abbrev pub count_excess : Member → ℕ → Items → Option Excess
count_excess m most ds = if nat_lt most (items_count ds) then Some (Count m (items_count ds) most) else None

-- the list at a key
abbrev pub list_at : List ℕ → Data → Option Items
list_at key d = option_and_then as_array (get key d)

-- rooms: too many, or one that is empty or too long
abbrev pub rooms_excess : Member → List ℕ → Data → Option Excess
rooms_excess m key d = option_and_then (λ ds. option_or (count_excess m max_rooms ds) (items_excess m 1 max_room ds)) (list_at key d)

-- a number that is greater than it may be
abbrev pub number_excess : Member → ℕ → Option ℕ → Option Excess
number_excess m most None = None
number_excess m most (Some n) = if nat_lt most n then Some (Number m n most) else None

-- what of a member is outside its limits
abbrev pub excess_of : Member → Data → Option Excess
excess_of member.Off d = length_excess member.Off max_offset (text_at (codes "off") d)
excess_of member.OffOrNull d = length_excess member.OffOrNull max_offset (text_at (codes "off") d)
excess_of member.Nsp d = length_excess member.Nsp max_namespace (text_at (codes "nsp") d)
excess_of member.Rooms d = rooms_excess member.Rooms (codes "rooms") d
excess_of member.Except d = rooms_excess member.Except (codes "except") d
excess_of member.Bin d = option_and_then (count_excess member.Bin max_attachments) (list_at (codes "bin") d)
excess_of member.Pid d = length_excess member.Pid max_id (text_at (codes "pid") d)
excess_of member.Sid d = length_excess member.Sid max_id (text_at (codes "sid") d)
excess_of member.Room d = length_excess member.Room max_room (text_at (codes "room") d)
excess_of member.Turn d = number_excess member.Turn max_turn (number_at (codes "turn") d)
excess_of member.Kind d = None
excess_of member.Version d = None
excess_of member.Of d = None
excess_of member.Text d = None
excess_of member.Connection d = None
excess_of member.Message d = None
excess_of member.Bytes d = None

-- the first of these members that is outside its limits, and what of it
abbrev pub first_excess : List Member → Data → Option Excess
first_excess [] d = None
first_excess (m ∷ ms) d = option_or (excess_of m d) (first_excess ms d)
