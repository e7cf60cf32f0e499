-- The limits of lines and fields.
use Rattle.std.specs.Prelude.{ℕ, ◌&&◌, nat_le, List, length, Bool}
use Rattle.std.specs.List.{list_all}

-- bytes of a line
abbrev pub max_line : ℕ
max_line = 4194304

-- bytes of a tap's name
abbrev pub max_name : ℕ
max_name = 32

-- bytes of a pid or a sid
abbrev pub max_id : ℕ
max_id = 128

-- bytes of an offset
abbrev pub max_offset : ℕ
max_offset = 64

-- bytes of a room
abbrev pub max_room : ℕ
max_room = 256

-- bytes of a namespace
abbrev pub max_namespace : ℕ
max_namespace = 256

-- rooms that an event is for, or that it leaves out
abbrev pub max_rooms : ℕ
max_rooms = 256

-- attachments of an event
abbrev pub max_attachments : ℕ
max_attachments = 64

-- the number of a turn
abbrev pub max_turn : ℕ
max_turn = 65535

-- a text of 1 byte up to so many
abbrev pub fits : ℕ → List ℕ → Bool
fits most t = nat_le 1 (length t) && nat_le (length t) most

-- so many rooms, and each of a room's length
abbrev pub fit_rooms : List (List ℕ) → Bool
fit_rooms rooms = nat_le (length rooms) max_rooms && list_all (fits max_room) rooms
