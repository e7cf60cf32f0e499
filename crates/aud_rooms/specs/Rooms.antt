-- Rooms, and to whom an entry is addressed.
use Rattle.std.specs.Prelude.{Bool, false, Option, Some, None, ◌&&◌, ◌||◌, not, if◌then◌else◌}
use Rattle.std.specs.List.{list_any}
use Rattle.std.specs.Ordering.{nat_cmp}
use Rattle.std.specs.Cmp.Lexicographic.{slice_cmp}
use Rattle.std.specs.FinSet as set
use Rattle.std.specs.Str.{bytes_eq}
use Rattle.aud_tap.specs.declared.records.StreamRec.{StreamRec}
use Rattle.aud_tap.specs.declared.records.StreamRec.TheVariants.{Ev, Other}
use Rattle.aud_tap.specs.declared.records.NodeRec.{NodeRec}
use Rattle.aud_tap.specs.declared.records.NodeRec.TheVariants.{Join, Leave}
use Rattle.aud_node.specs.Lists.{is_empty}
use Rattle.aud_node.specs.Stream.{Text}
use Rattle.aud_node.specs.Recoverable.{is_recoverable}

-- a set of rooms
abbrev pub Rooms : Type 0
Rooms = set.FinSet (slice_cmp nat_cmp)

-- the one room named by the sid
abbrev pub own_room : Text → Rooms
own_room sid = set.insert set.empty sid

-- the namespace is the entry's, its rooms are none or meet these, and none of these is excepted
abbrev pub is_addressed : StreamRec → Text → Rooms → Bool
is_addressed (Ev event) nsp held =
    bytes_eq event.nsp nsp
    && ((is_empty event.rooms || list_any (set.contains held) event.rooms)
    && not (list_any (set.contains held) event.except))
is_addressed (Other off) nsp held = false

-- the entry, if there is one, is recoverable and addressed to the namespace and the rooms
abbrev pub is_for : Option StreamRec → Text → Rooms → Bool
is_for None nsp held = false
is_for (Some entry) nsp held = is_recoverable entry && is_addressed entry nsp held

-- the rooms of the session of this pid after one of the node's records
abbrev pub rooms_after : Text → Rooms → NodeRec → Rooms
rooms_after pid held (Join other room) = if bytes_eq other pid then set.insert held room else held
rooms_after pid held (Leave other room) = if bytes_eq other pid then set.remove held room else held
rooms_after pid held _ = held
