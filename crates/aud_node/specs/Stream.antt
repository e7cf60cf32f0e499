-- The stream: entries in order, with positions from 1 on.
use Rattle.std.specs.Prelude.{ℕ, zero, suc, List, [], ◌∷◌, Option, Some, None, if◌then◌else◌, slice_get}
use Rattle.std.specs.Option.{option_map}
use Rattle.std.specs.Str.{bytes_eq}
use Rattle.aud_base.specs.Lists.{numbers_from}
pub use Rattle.aud_tap.specs.RecordFields.{offset_of}
use Rattle.aud_tap.specs.declared.records.StreamRec.{StreamRec}

-- a name, a pid, a sid, a room, a namespace or an offset: its bytes
abbrev pub Text : Type 0
Text = List ℕ

-- the position of the first entry that has the offset
abbrev pub position : List StreamRec → Text → Option ℕ
position [] off = None
position (e ∷ es) off = if bytes_eq (offset_of e) off then Some 1 else option_map suc (position es off)

-- the entry at a position
abbrev pub entry : List StreamRec → ℕ → Option StreamRec
entry stream zero = None
entry stream (suc i) = slice_get stream i

-- the positions of so many entries, from the one after this position on
abbrev pub positions_after : ℕ → ℕ → List ℕ
positions_after p count = numbers_from (suc p) count
