-- What the turns of a session open, and how far they reach.
use Rattle.std.specs.Prelude.{ℕ, List, [], ◌∷◌, max, Option, Some, None, slice_get}
use Rattle.aud_tap.specs.declared.records.NodeRec.{NodeRec}
use Rattle.aud_tap.specs.declared.records.NodeRec.TheVariants.{Opened}
use Rattle.aud_node.specs.Stream.{Text}
use Rattle.aud_cert.specs.Certificate.{TurnSeen}

-- the sid and the namespace of an `open`, beside this cursor
abbrev pub opened_by : ℕ → Option NodeRec → Option (Text × Text × ℕ)
opened_by low (Some (Opened pid sid nsp)) = Some (sid, nsp, low)
opened_by low _ = None

-- the sid and the namespace that the first record of the first turn opens, and the node's cursor after it
abbrev pub opened_in : List TurnSeen → Option (Text × Text × ℕ)
opened_in [] = None
opened_in (t ∷ later) = opened_by t.low (slice_get t.recs 0)

-- the greatest position that the turns reach
abbrev pub greatest_turn_high : List TurnSeen → ℕ
greatest_turn_high [] = 0
greatest_turn_high (t ∷ later) = max t.high (greatest_turn_high later)
