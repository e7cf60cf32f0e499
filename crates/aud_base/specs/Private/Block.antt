-- The bytes of a text, where they stand.
use Rattle.std.specs.Prelude.{ℕ, List, string_bytes}
use Rattle.std.specs.Arc.{arc_value}
use Rattle.aud_base.specs.declared.text.Block.{Block}

-- the bytes of the block
abbrev pub block_bytes : Block → List ℕ
block_bytes (Block.Short short) = short
block_bytes (Block.UpTo40 array) = (arc_value array).bytes
block_bytes (Block.UpTo104 array) = (arc_value array).bytes
block_bytes (Block.UpTo168 array) = (arc_value array).bytes
block_bytes (Block.UpTo232 array) = (arc_value array).bytes
block_bytes (Block.Long long) = string_bytes (arc_value long)
