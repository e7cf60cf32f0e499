-- The bytes of a short text, in the 15 where they stand.
use Rattle.std.specs.Prelude.{ℕ, List, Bool, ◌-◌, ◌&&◌, nat_lt, nat_le, if◌then◌else◌, length, min, slice_index, take}

-- how many bytes the text has: all 15 where the last can be that of a text, and else what the last says
abbrev pub short_count : ℕ → ℕ
short_count last = if nat_lt last 192 then 15 else min (last - 192) 15

-- the text's bytes
abbrev pub short_bytes : List ℕ → List ℕ
short_bytes bytes = take (short_count (slice_index bytes 14)) bytes

-- a text that is kept so: of at most 15 bytes, of which a last one counts nothing
abbrev pub is_short : List ℕ → Bool
is_short text = nat_le (length text) 15 && nat_lt (slice_index text 14) 192
