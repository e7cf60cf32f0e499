-- What a node's log keeps beside its records.
use Rattle.std.specs.Prelude.{◌≡◌, []}
use Rattle.std.specs.List.{filter_map}
use Rattle.aud_base.specs.FirstTexts.{with_texts}
use Rattle.aud_base.specs.Places.{places_of, texts_of}
use Rattle.aud_node.specs.Stream.{Text}
use Rattle.aud_node.specs.OwnRecords.{own_numbers}
use Rattle.aud_node.specs.TurnRecords.{pid_of}
use Rattle.aud_node.specs.Private.CursorIndex.{HoldsCursors}
use Rattle.aud_node.specs.Private.TurnIndex.{HoldsTurns}
use Rattle.aud_node.specs.declared.node_log.NodeLog.TheInside.{Inside}

-- the cursors, the numbers, the pids and the turns are those of the records
pub record HoldsNodeLog (n : Inside) : Type 0 where
  pub cursors_are : HoldsCursors n.stream n.recs.now n.cursors
  pub own_are : (pid : Text) → places_of n.own pid ≡ own_numbers n.recs.now pid
  pub pids_are : texts_of n.own ≡ with_texts [] (filter_map pid_of n.recs.now)
  pub turns_are : HoldsTurns n.recs.now n.turns
