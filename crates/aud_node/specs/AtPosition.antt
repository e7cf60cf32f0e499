-- What the stream has at a position.
use Rattle.std.specs.Prelude.{ℕ, List, Bool, false, Option, Some, None}
use Rattle.aud_tap.specs.declared.records.StreamRec.{StreamRec}
use Rattle.aud_node.specs.Stream.{entry}
use Rattle.aud_node.specs.Recoverable.{is_recoverable}

-- there is an entry, and it is recoverable
abbrev pub is_some_recoverable : Option StreamRec → Bool
is_some_recoverable None = false
is_some_recoverable (Some e) = is_recoverable e

-- the entry at the position is recoverable; false where there is none
abbrev pub is_recoverable_at : List StreamRec → ℕ → Bool
is_recoverable_at stream p = is_some_recoverable (entry stream p)
