-- Which span holds a room at a position.
use Rattle.std.specs.Prelude.{ℕ, Bool, ◌&&◌}
use Rattle.std.specs.Str.{bytes_eq}
use Rattle.aud_node.specs.Stream.{Text}
use Rattle.aud_rooms.specs.Spans.{RoomSpan, is_within}

-- the span is of the room, and holds the position
abbrev pub holds_room : ℕ → Text → RoomSpan → Bool
holds_room p room s = is_within p s && bytes_eq room s.room
