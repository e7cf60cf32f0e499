-- A node's log, beside the stream that the node takes from.
use Rattle.std.specs.Prelude.{ℕ, suc, List, Option}
use Rattle.std.specs.Option.{option_map}
use Rattle.std.specs.Prelude.{slice_get}
use Rattle.aud_tap.specs.declared.records.StreamRec.{StreamRec}
use Rattle.aud_tap.specs.declared.records.NodeRec.{NodeRec}
use Rattle.aud_node.specs.Cursors.{cursor_at}

pub record NodeTap : Type 0 where
  pub stream : List StreamRec
  pub recs : List NodeRec

-- the cursor after the record with this number; none where there is no such record
abbrev pub cursor_after : NodeTap → ℕ → Option ℕ
cursor_after log number = option_map (λ _. cursor_at log.stream log.recs (suc number)) (slice_get log.recs number)
