-- The position that a node takes next.
use Rattle.std.specs.Prelude.{ℕ, suc, List, Option, Some, None, if◌then◌else◌}
use Rattle.aud_tap.specs.declared.records.StreamRec.{StreamRec}
use Rattle.aud_node.specs.Stream.{Text, position}
use Rattle.aud_node.specs.Cursors.{is_position}

-- the position after the cursor, if the offset stands there
abbrev pub next_position : List StreamRec → Text → ℕ → Option ℕ
next_position stream off cursor = if is_position (position stream off) (suc cursor) then Some (suc cursor) else None
