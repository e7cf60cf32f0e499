-- Maps by room.
use Rattle.std.specs.Prelude.{Bool, false, List, map, Option, Some, None}
use Rattle.std.specs.List.{filter}
use Rattle.std.specs.List.Sorted.{IsStrictlySortedBy}
use Rattle.std.specs.Map.{lookup}
use Rattle.std.specs.Ordering.{nat_cmp, is_eq}
use Rattle.std.specs.declared.cmp.Ordering.{Ordering}
use Rattle.std.specs.Cmp.Lexicographic.{slice_cmp}
use Rattle.std.specs.FinSet as set
use denote.Ref.{Bor}
use Rattle.aud_node.specs.Stream.{Text}
use Rattle.aud_rooms.specs.Rooms.{Rooms}

-- rooms, borrowed, each with what is kept of it
abbrev pub RoomMap : Type 0 → Type 0
RoomMap X = List ((Bor Text) × X)

-- what is kept of a room
abbrev pub at_room : {X : Type 0} → RoomMap X → Text → Option X
at_room es room = lookup (λ k. is_eq (slice_cmp nat_cmp room k.now)) es

-- there is something, and it passes the test
abbrev pub do_pass : {X : Type 0} → (X → Bool) → Option X → Bool
do_pass test None = false
do_pass test (Some x) = test x

-- the rooms of which something is kept that passes the test
unfoldable pub rooms_with : {X : Type 0} → (X → Bool) → RoomMap X → Rooms
rooms_with test es = set.from_list (filter (λ room. do_pass test (at_room es room)) (map (λ e. e.0.now) es))

-- by the bytes of the room
abbrev pub by_room : Bor Text → Bor Text → Ordering
by_room a b = slice_cmp nat_cmp a.now b.now

-- each room stands once, in the order of the rooms' bytes
abbrev pub AreOrdered : {X : Type 0} → RoomMap X → Type 0
AreOrdered {X} es = IsStrictlySortedBy by_room (map (λ (e : (Bor Text) × X). e.0) es)
