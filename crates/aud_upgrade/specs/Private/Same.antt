-- Turns of taps that differ in how their nodes' takes are written alone.
use Rattle.std.specs.Prelude.{◌≡◌, ℕ, false, List, [], ◌∷◌, take}
use Rattle.aud_tap.specs.declared.records.StreamRec.{StreamRec}
use Rattle.aud_tap.specs.declared.records.NodeRec.{NodeRec}
use Rattle.aud_tap.specs.declared.taps.Tap.{Tap}
use Rattle.aud_node.specs.Stream.{Text}
use Rattle.aud_node.specs.Cluster.{Cluster, node_log}
use Rattle.aud_node.specs.NodeTaps.{client_at}
use Rattle.aud_node.specs.Ordered.{is_ordered}
use Rattle.aud_client.specs.Replies.{naming_places}
use Rattle.aud_rooms.specs.Turns.{Turn, Slice, slice_of}
use Rattle.aud_upgrade.specs.Private.Told.{is_taking, told}
use Rattle.aud_upgrade.specs.Private.Alike.{AreAlike}

-- the taps, over this stream
abbrev pub over : List StreamRec → List Tap → Cluster
over stream taps = record { stream = stream; taps = taps }

-- each node's log is alike the one at its place
abbrev pub HasAlikeLogs : List StreamRec → List Tap → List Tap → Type 0
HasAlikeLogs stream taps taps' = (place : ℕ) → AreAlike stream 0 0 (node_log (over stream taps) place) 0 0 (node_log (over stream taps') place)

-- slices with the same cursors, the same first record, and in which the same is told after it
pub record AreSameSlices (stream : List StreamRec) (slice slice' : Slice) : Type 0 where
  pub low : slice'.low ≡ slice.low
  pub high : slice'.high ≡ slice.high
  pub first : NodeRec
  pub quiet : is_taking first ≡ false
  pub rest : List NodeRec
  pub rest' : List NodeRec
  pub recs : slice.recs ≡ first ∷ rest
  pub recs' : slice'.recs ≡ first ∷ rest'
  pub rests : told stream 1 slice.low rest ≡ told stream 1 slice.low rest'

-- the turn and the one that it is in the other taps: on the same node, with the same slice, and the same is told before
-- its first record and before its end
pub record AreSameTurns (stream : List StreamRec) (taps taps' : List Tap) (t t' : Turn) : Type 0 where
  pub node : t'.node ≡ t.node
  pub slices : AreSameSlices stream (slice_of (over stream taps) t) (slice_of (over stream taps') t')
  pub fronts : told stream 0 0 (take t.from (node_log (over stream taps) t.node)) ≡ told stream 0 0 (take t'.from (node_log (over stream taps') t.node))
  pub throughs : told stream 0 0 (take t.to (node_log (over stream taps) t.node)) ≡ told stream 0 0 (take t'.to (node_log (over stream taps') t.node))

-- turn by turn
abbrev pub AreAllSame : List StreamRec → List Tap → List Tap → List Turn → List Turn → Type 0
AreAllSame stream taps taps' [] [] = Unit {0}
AreAllSame stream taps taps' (t ∷ ts) (t' ∷ ts') = AreSameTurns stream taps taps' t t' × AreAllSame stream taps taps' ts ts'
AreAllSame stream taps taps' _ _ = ⊥

-- taps whose node logs are alike, and in order where the others are, and whose client taps tell the same
pub record AreAlikeTaps (stream : List StreamRec) (taps taps' : List Tap) : Type 0 where
  pub logs : HasAlikeLogs stream taps taps'
  pub orders : (place : ℕ) → is_ordered stream (node_log (over stream taps) place) ≡ is_ordered stream (node_log (over stream taps') place)
  pub clients : (place : ℕ) → client_at (over stream taps) place ≡ client_at (over stream taps') place
  pub naming : (pid : Text) → naming_places taps pid ≡ naming_places taps' pid
