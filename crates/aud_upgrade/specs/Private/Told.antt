-- What a node's log tells beside its takes: the records that take nothing, with the cursors there.
use Rattle.std.specs.Prelude.{◌≡◌, ◌&&◌, ℕ, zero, suc, Bool, true, false, List, [], ◌∷◌, ◌++◌, if◌then◌else◌}
use Rattle.aud_tap.specs.declared.records.StreamRec.{StreamRec}
use Rattle.aud_tap.specs.declared.records.NodeRec.{NodeRec}
use Rattle.aud_tap.specs.declared.records.NodeRec.TheVariants.{Take, Takes}
use Rattle.aud_node.specs.Cursors.{next_cursor}
use Rattle.aud_node.specs.Ordered.{is_in_order}

-- the record takes entries, and does nothing else
abbrev pub is_taking : NodeRec → Bool
is_taking (Take off) = true
is_taking (Takes off) = true
is_taking _ = false

-- a record, and the cursor after it
pub record Told : Type 0 where
  pub rec : NodeRec
  pub cursor : ℕ

-- the record with this number, after this cursor
abbrev pub told_at : List StreamRec → ℕ → ℕ → NodeRec → Told
told_at stream number cursor rec = record { rec = rec; cursor = next_cursor stream number rec cursor }

-- of the records, the first of which has this number and stands after this cursor, those that take nothing
abbrev pub told : List StreamRec → ℕ → ℕ → List NodeRec → List Told
told stream number cursor [] = []
told stream number cursor (rec ∷ recs) =
    if is_taking rec then told stream 1 (next_cursor stream number rec cursor) recs
    else told_at stream number cursor rec ∷ told stream 1 (next_cursor stream number rec cursor) recs

-- the cursor after all of them
abbrev pub cursor_over : List StreamRec → ℕ → ℕ → List NodeRec → ℕ
cursor_over stream number cursor [] = cursor
cursor_over stream number cursor (rec ∷ recs) = cursor_over stream 1 (next_cursor stream number rec cursor) recs

-- the records before and after one that takes nothing, in which these are told
pub record Parted (stream : List StreamRec) (number cursor : ℕ) (log : List NodeRec) (before : List Told) (at : Told) (after : List Told) : Type 0 where
  pub front : List NodeRec
  pub back : List NodeRec
  pub is : log ≡ front ++ at.rec ∷ back
  pub quiet : is_taking at.rec ≡ false
  pub fronts : told stream number cursor front ≡ before
  pub here : cursor_over stream number cursor (front ++ at.rec ∷ []) ≡ at.cursor
  pub backs : told stream 1 at.cursor back ≡ after
  pub end : cursor_over stream 1 at.cursor back ≡ cursor_over stream number cursor log

-- whether all records are in order, the first of which has this number and stands after this cursor; there is one of
-- number 0
abbrev pub ordered_over : List StreamRec → ℕ → ℕ → List NodeRec → Bool
ordered_over stream zero cursor [] = false
ordered_over stream (suc number) cursor [] = true
ordered_over stream number cursor (rec ∷ recs) = is_in_order stream number cursor rec && ordered_over stream 1 (next_cursor stream number rec cursor) recs
