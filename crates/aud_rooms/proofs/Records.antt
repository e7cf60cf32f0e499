-- Records of a node's log, and how the cursor moves along it.
use Rattle.std.proofs.Common.{◌≡◌, ◌≤◌, ℕ, zero, suc, false, List, Some, slice_get, ap, sym, ◌∙◌, arith}
use Rattle.std.proofs.lemmas.Bool.Decides.{nat_tests}
use Rattle.aud_tap.specs.declared.records.StreamRec.{StreamRec}
use Rattle.aud_tap.specs.declared.records.NodeRec.{NodeRec}
use Rattle.aud_node.specs.Cursors.{later_cursor, next_cursor, cursor_past, cursor_at}
use Rattle.aud_node.specs.OwnRecords.{record_names}
use Rattle.aud_node.specs.Stream.{Text}
use Rattle.aud_node.proofs.RecordLemmas.{cursor_at-rises}
use Rattle.aud_rooms.specs.Rooms.{Rooms, rooms_after}

-- a record that isn't the session's leaves its rooms
pub other_rooms : (pid : Text) (held : Rooms) (rec : NodeRec) → record_names (Some rec) pid ≡ false → rooms_after pid held rec ≡ held
other_rooms pid held rec e = grind arith

-- a record that has moved the cursor moves it no further
moved : (stream : List StreamRec) (i : ℕ) (rec : NodeRec) (cursor : ℕ) → later_cursor stream rec (next_cursor stream i rec cursor) ≡ next_cursor stream i rec cursor
moved stream zero rec cursor = grind (arith, nat_tests)
moved stream (suc i) rec cursor = grind (arith, nat_tests)

-- the cursor before the record with this number; before the first one, which may set it, that after it
abbrev pub cursor_before : List StreamRec → List NodeRec → ℕ → ℕ
cursor_before stream log zero = cursor_at stream log 1
cursor_before stream log (suc x) = cursor_at stream log (suc x)

module _ (stream : List StreamRec) (log : List NodeRec) where
  -- nor does the log's record with this number
  pub later_stays : (x : ℕ) (rec : NodeRec) → slice_get log x ≡ Some rec → later_cursor stream rec (cursor_at stream log (suc x)) ≡ cursor_at stream log (suc x)
  later_stays x rec at =
      let next : cursor_at stream log (suc x) ≡ next_cursor stream x rec (cursor_at stream log x) = ap (λ o. cursor_past stream x o (cursor_at stream log x)) at in
      ap (later_cursor stream rec) next ∙ moved stream x rec (cursor_at stream log x) ∙ sym next

  -- the record moves the cursor from where it stands before it to where it stands after it
  pub before_moves : (x : ℕ) (rec : NodeRec) → slice_get log x ≡ Some rec → later_cursor stream rec (cursor_before stream log x) ≡ cursor_at stream log (suc x)
  before_moves zero rec at = later_stays zero rec at
  before_moves (suc x) rec at = sym (ap (λ o. cursor_past stream (suc x) o (cursor_at stream log (suc x))) at)

  -- and not back
  pub before_rises : (x : ℕ) → cursor_before stream log x ≤ cursor_at stream log (suc x)
  before_rises zero = omega arith
  before_rises (suc x) = cursor_at-rises stream log (suc x) (suc (suc x)) (omega arith)
