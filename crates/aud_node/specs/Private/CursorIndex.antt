-- What a node's log keeps beside its records.
use Rattle.std.specs.Prelude.{◌≡◌, ℕ, suc, List, map, length}
use Rattle.aud_tap.specs.declared.records.StreamRec.{StreamRec}
use Rattle.aud_tap.specs.declared.records.NodeRec.{NodeRec}
use Rattle.aud_node.specs.Lists.{numbers_from}
use Rattle.aud_node.specs.Cursors.{cursor_at}
use Rattle.aud_node.specs.Ordered.{is_ordered}
use Rattle.aud_node.specs.declared.cursors.Cursors.{Cursors}

-- the cursor after each record
abbrev pub cursors_after : List StreamRec → List NodeRec → List ℕ
cursors_after stream log = map (λ number. cursor_at stream log (suc number)) (numbers_from 0 (length log))

-- the cursors are those of the log, and so is their order
pub record HoldsCursors (stream : List StreamRec) (log : List NodeRec) (cursors : Cursors) : Type 0 where
  pub after_are : cursors.after.items ≡ cursors_after stream log
  pub ordered_is : cursors.ordered ≡ is_ordered stream log
