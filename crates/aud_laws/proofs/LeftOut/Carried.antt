-- What carries over from taps to others, so that the verdict on a session does.
use Rattle.std.proofs.Common.{◌≡◌, false, List, length, map}
use Rattle.std.specs.List.{Contains}
use Rattle.aud_tap.specs.declared.records.StreamRec.{StreamRec}
use Rattle.aud_tap.specs.declared.taps.Tap.{Tap}
use Rattle.aud_node.specs.Cluster.{node_log}
use Rattle.aud_node.specs.Ordered.{is_ordered}
use Rattle.aud_rooms.specs.Turns.{Who, Turn, slice_of, IsChain}
use Rattle.aud_rooms.specs.TurnsDue.{turns_due}
use Rattle.aud_laws.proofs.LeftOut.Logs.{over}

-- a chain of as many turns, by which the same is due; one of them is on a node that isn't ordered where one of those is
pub record CarriedChain (stream : List StreamRec) (taps others : List Tap) (who : Who) (ts : List Turn) : Type 0 where
  pub turns : List Turn
  pub is : IsChain (over stream others) who turns
  pub count : length ts ≡ length turns
  pub due : turns_due stream who (map (slice_of (over stream others)) turns) ≡ turns_due stream who (map (slice_of (over stream taps)) ts)
  pub unordered : (t : Turn) → Contains ts t → is_ordered stream (node_log (over stream taps) t.node) ≡ false
      → (other : Turn) × Contains turns other × (is_ordered stream (node_log (over stream others) other.node) ≡ false)
