-- A node's log: its cursor, which is the last position taken.
use Rattle.std.specs.Prelude.{ℕ, zero, suc, Bool, false, List, Option, Some, None, if◌then◌else◌, nat_eq, nat_lt, slice_get}
use Rattle.aud_tap.specs.declared.records.StreamRec.{StreamRec}
use Rattle.aud_tap.specs.declared.records.NodeRec.{NodeRec}
use Rattle.aud_tap.specs.declared.records.NodeRec.TheVariants.{Start, Take, Takes}
use Rattle.aud_node.specs.Stream.{position}

abbrev pub is_position : Option ℕ → ℕ → Bool
is_position None p = false
is_position (Some q) p = nat_eq q p

-- the position, if it is past the cursor
abbrev pub position_if_past : Option ℕ → ℕ → Option ℕ
position_if_past None cursor = None
position_if_past (Some q) cursor = if nat_lt cursor q then Some q else None

-- the position, or else the cursor as it was
abbrev pub position_or : Option ℕ → ℕ → ℕ
position_or None cursor = cursor
position_or (Some q) cursor = q

-- the cursor after a record that isn't a log's first. A `take` moves it to the next position, a `takes` to any later
-- one; where the offset isn't in the stream, or stands elsewhere, the cursor stays, as it does by every other record
abbrev pub later_cursor : List StreamRec → NodeRec → ℕ → ℕ
later_cursor stream (Take off) cursor = if is_position (position stream off) (suc cursor) then suc cursor else cursor
later_cursor stream (Takes off) cursor = position_or (position_if_past (position stream off) cursor) cursor
later_cursor stream _ cursor = cursor

-- the cursor after the record with this number: a `start` that is the first record sets it, if its offset is in the
-- stream
abbrev pub next_cursor : List StreamRec → ℕ → NodeRec → ℕ → ℕ
next_cursor stream zero (Start None) cursor = 0
next_cursor stream zero (Start (Some off)) cursor = position_or (position stream off) cursor
next_cursor stream number rec cursor = later_cursor stream rec cursor

abbrev pub cursor_past : List StreamRec → ℕ → Option NodeRec → ℕ → ℕ
cursor_past stream number None cursor = cursor
cursor_past stream number (Some rec) cursor = next_cursor stream number rec cursor

-- the cursor after the first `count` records of the log
abbrev pub cursor_at : List StreamRec → List NodeRec → ℕ → ℕ
cursor_at stream log zero = 0
cursor_at stream log (suc count) = cursor_past stream count (slice_get log count) (cursor_at stream log count)
