-- Node logs whose takes neither skip nor overtake.
use Rattle.std.specs.Prelude.{ℕ, zero, suc, Bool, true, false, List, [], ◌∷◌, length, Option, Some, None, is_some, slice_get}
use Rattle.std.specs.List.{list_all}
use Rattle.aud_tap.specs.declared.records.StreamRec.{StreamRec}
use Rattle.aud_tap.specs.declared.records.NodeRec.{NodeRec}
use Rattle.aud_tap.specs.declared.records.NodeRec.TheVariants.{Start, Take, Takes}
use Rattle.aud_node.specs.Lists.{numbers_from}
use Rattle.aud_node.specs.Stream.{position}
use Rattle.aud_node.specs.Cursors.{is_position, position_if_past, cursor_at}

-- the record with this number, after this cursor, is in order: the first one is a `start` at the stream's begin or
-- after an entry of the stream, no other one is a `start`, each `take` is of the position after the cursor, and each
-- `takes` is of a position past the cursor
abbrev pub is_in_order : List StreamRec → ℕ → ℕ → NodeRec → Bool
is_in_order stream zero cursor (Start None) = true
is_in_order stream zero cursor (Start (Some off)) = is_some (position stream off)
is_in_order stream zero cursor _ = false
is_in_order stream (suc number) cursor (Start off) = false
is_in_order stream (suc number) cursor (Take off) = is_position (position stream off) (suc cursor)
is_in_order stream (suc number) cursor (Takes off) = is_some (position_if_past (position stream off) cursor)
is_in_order stream (suc number) cursor _ = true

abbrev pub is_some_in_order : List StreamRec → ℕ → ℕ → Option NodeRec → Bool
is_some_in_order stream number cursor None = false
is_some_in_order stream number cursor (Some rec) = is_in_order stream number cursor rec

-- the log has a first record, and each of its records is in order
abbrev pub is_ordered : List StreamRec → List NodeRec → Bool
is_ordered stream [] = false
is_ordered stream (first ∷ others) =
    list_all
    (λ number. is_some_in_order stream number (cursor_at stream (first ∷ others) number) (slice_get (first ∷ others) number))
    (numbers_from 0 (length (first ∷ others)))
