-- What is due to a session by its turns alone.
use Rattle.std.specs.Prelude.{ℕ, Bool, false, List, [], ◌∷◌, length, Option, Some, None, if◌then◌else◌, nat_lt, nat_le, ◌&&◌, max}
use Rattle.std.specs.List.{filter}
use Rattle.aud_tap.specs.declared.records.StreamRec.{StreamRec}
use Rattle.aud_tap.specs.declared.records.NodeRec.{NodeRec}
use Rattle.aud_node.specs.Stream.{Text, entry, positions_after}
use Rattle.aud_node.specs.Cursors.{later_cursor}
use Rattle.aud_rooms.specs.Rooms.{Rooms, own_room, rooms_after, is_for}
use Rattle.aud_rooms.specs.Turns.{Who, Slice}

-- the rooms after the records
abbrev pub rooms_at_end : Text → Rooms → List NodeRec → Rooms
rooms_at_end pid held [] = held
rooms_at_end pid held (rec ∷ recs) = rooms_at_end pid (rooms_after pid held rec) recs

-- the rooms at the first of the records after which the cursor reaches position p; before them it stands at this one
abbrev pub rooms_at_reach : List StreamRec → Text → ℕ → ℕ → Rooms → List NodeRec → Rooms
rooms_at_reach stream pid p cursor held [] = held
rooms_at_reach stream pid p cursor held (rec ∷ recs) =
    if nat_le p (later_cursor stream rec cursor)
    then held
    else rooms_at_reach stream pid p (later_cursor stream rec cursor) (rooms_after pid held rec) recs

-- a position belongs to the first slice whose high reaches it. Its rooms are those at that slice's start where low
-- reaches it, else those at the first of its records after which the cursor does; low is the cursor after the slice's
-- first record, so that record moves it no further. A slice starts with the rooms at the end of the one before
abbrev pub rooms_for : List StreamRec → Text → Rooms → List Slice → ℕ → Option Rooms
rooms_for stream pid held [] p = None
rooms_for stream pid held (slice ∷ later) p =
    if nat_le p slice.high
    then Some (if nat_le p slice.low then held else rooms_at_reach stream pid p slice.low held slice.recs)
    else rooms_for stream pid (rooms_at_end pid held slice.recs) later p

-- the position is past the first slice's low
abbrev pub is_past_first : List Slice → ℕ → Bool
is_past_first [] p = false
is_past_first (first ∷ later) p = nat_lt first.low p

-- the entry, if there is one, is for the namespace and the rooms, if there are any
abbrev pub is_for_rooms : Option StreamRec → Text → Option Rooms → Bool
is_for_rooms at nsp None = false
is_for_rooms at nsp (Some held) = is_for at nsp held

-- the position is past the first slice's low, and its entry recoverable and addressed to the rooms that the slices
-- give it
abbrev pub is_turn_due : List StreamRec → Who → List Slice → ℕ → Bool
is_turn_due stream who slices p =
    is_past_first slices p
    && is_for_rooms (entry stream p) who.nsp (rooms_for stream who.pid (own_room who.sid) slices p)

-- what is due by the slices, ascending
abbrev pub turns_due : List StreamRec → Who → List Slice → List ℕ
turns_due stream who slices = filter (is_turn_due stream who slices) (positions_after 0 (length stream))

-- the greatest position that the slices reach
abbrev pub greatest_high : List Slice → ℕ
greatest_high [] = 0
greatest_high (slice ∷ later) = max slice.high (greatest_high later)
