-- No cursor is past the stream's end.
use Rattle.std.proofs.Common.{◌≤◌, ℕ, zero, suc, Bool, true, false, cond, List, [], ◌∷◌, length, map, Option, Some, None, option_map, slice_get, arith}
use Rattle.std.specs.Str.{bytes_eq}
use Rattle.std.proofs.lemmas.Bool.Decides.{nat_tests}
use Rattle.aud_tap.specs.declared.records.StreamRec.{StreamRec}
use Rattle.aud_tap.specs.declared.records.NodeRec.{NodeRec}
use Rattle.aud_node.specs.Stream.{Text, position, offset_of}
use Rattle.aud_node.specs.Cursors.{next_cursor, cursor_past, cursor_at}
use Rattle.aud_node.specs.Cluster.{Cluster, node_log}
use Rattle.aud_rooms.specs.Turns.{Turn, slice_of}
use Rattle.aud_rooms.specs.TurnsDue.{greatest_high}

-- a position, if there is one, is not past the end
abbrev IsUpTo : ℕ → Option ℕ → Type 0
IsUpTo end None = Unit {0}
IsUpTo end (Some p) = p ≤ end

-- one entry more in front
later : (b : Bool) (end : ℕ) (o : Option ℕ) → IsUpTo end o → IsUpTo (suc end) (cond b (Some 1) (option_map suc o))
later true end o h = omega arith
later false end None h = tt
later false end (Some p) h = omega arith

-- no entry is past the end
position-within : (stream : List StreamRec) (off : Text) → IsUpTo (length stream) (position stream off)
position-within [] off = tt
position-within (e ∷ es) off = later (bytes_eq (offset_of e) off) (length es) (position es off) (position-within es off)

module _ (stream : List StreamRec) where
  -- a record leaves the cursor within the stream
  next-within : (i : ℕ) (rec : NodeRec) (cursor : ℕ) → cursor ≤ length stream → next_cursor stream i rec cursor ≤ length stream
  next-within i rec cursor h = grind (arith, nat_tests, position-within stream)

  next : (i : ℕ) (o : Option NodeRec) (cursor : ℕ) → cursor ≤ length stream → cursor_past stream i o cursor ≤ length stream
  next i None cursor h = h
  next i (Some rec) cursor h = next-within i rec cursor h

  -- no cursor is past the stream's end
  pub cursor-within : (log : List NodeRec) (count : ℕ) → cursor_at stream log count ≤ length stream
  cursor-within log zero = omega arith
  cursor-within log (suc count) = next count (slice_get log count) (cursor_at stream log count) (cursor-within log count)

-- nor is the greatest of turns
pub greatest-within : (c : Cluster) (turns : List Turn) → greatest_high (map (slice_of c) turns) ≤ length c.stream
greatest-within c [] = omega arith
greatest-within c (t ∷ turns) = let first = cursor-within c.stream (node_log c t.node) t.to in let rest = greatest-within c turns in omega arith
