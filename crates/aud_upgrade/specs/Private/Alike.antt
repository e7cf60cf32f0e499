-- Logs that differ in how they write their takes alone.
use Rattle.std.specs.Prelude.{◌≡◌, ℕ, List, [], ◌∷◌, ◌++◌, Some}
use Rattle.aud_tap.specs.declared.records.StreamRec.{StreamRec}
use Rattle.aud_tap.specs.declared.records.NodeRec.{NodeRec}
use Rattle.aud_node.specs.Stream.{Text}
use Rattle.aud_rooms.specs.Turns.{Inner, Last, End, ByLog, part_of, turn_end}
use Rattle.aud_upgrade.specs.Private.Told.{Told, told, cursor_over}

-- the same is told, and the cursors after all are the same
pub record AreAlike (stream : List StreamRec) (number cursor : ℕ) (log : List NodeRec) (number' cursor' : ℕ) (log' : List NodeRec) : Type 0 where
  pub tells : told stream number cursor log ≡ told stream number' cursor' log'
  pub ends : cursor_over stream number cursor log ≡ cursor_over stream number' cursor' log'

-- the records of a log that are alike those before and after one that takes nothing
pub record Matched (stream : List StreamRec) (number cursor : ℕ) (front : List NodeRec) (rec : NodeRec) (back : List NodeRec) (number' cursor' : ℕ) (log' : List NodeRec) : Type 0 where
  pub front' : List NodeRec
  pub back' : List NodeRec
  pub is : log' ≡ front' ++ rec ∷ back'
  pub fronts : told stream number cursor front ≡ told stream number' cursor' front'
  pub here : cursor_over stream number' cursor' (front' ++ rec ∷ []) ≡ cursor_over stream number cursor (front ++ rec ∷ [])
  pub backs : AreAlike stream 1 (cursor_over stream number cursor (front ++ rec ∷ [])) back 1 (cursor_over stream number cursor (front ++ rec ∷ [])) back'

-- all records stand inside turn k
abbrev pub AreInner : Text → ℕ → List NodeRec → Type 0
AreInner pid k [] = Unit {0}
AreInner pid k (rec ∷ recs) = (part_of pid k rec ≡ Inner) × AreInner pid k recs

-- all records that are told stand inside turn k
abbrev pub AreToldInner : Text → ℕ → List Told → Type 0
AreToldInner pid k [] = Unit {0}
AreToldInner pid k (t ∷ ts) = (part_of pid k t.rec ≡ Inner) × AreToldInner pid k ts

-- the last record ends turn k, and the others stand inside
pub record EndsByLast (pid : Text) (k : ℕ) (recs : List NodeRec) (end : End) : Type 0 where
  pub inner : List NodeRec
  pub last : NodeRec
  pub is : recs ≡ inner ++ last ∷ []
  pub are_inner : AreInner pid k inner
  pub is_last : part_of pid k last ≡ Last end

-- the turn of a log that is alike: the records before it, the first one, the others, and those after it
pub record Turned (stream : List StreamRec) (pid : Text) (k : ℕ) (front : List NodeRec) (first : NodeRec) (rest : List NodeRec) (end : End) (log' : List NodeRec) : Type 0 where
  pub front' : List NodeRec
  pub rest' : List NodeRec
  pub back' : List NodeRec
  pub is : log' ≡ front' ++ first ∷ (rest' ++ back')
  pub fronts : told stream 0 0 front ≡ told stream 0 0 front'
  pub here : cursor_over stream 0 0 (front' ++ first ∷ []) ≡ cursor_over stream 0 0 (front ++ first ∷ [])
  pub rests : AreAlike stream 1 (cursor_over stream 0 0 (front ++ first ∷ [])) rest 1 (cursor_over stream 0 0 (front ++ first ∷ [])) rest'
  pub ends : turn_end pid k rest' ≡ Some end
  pub whole : end ≡ ByLog → back' ≡ []
