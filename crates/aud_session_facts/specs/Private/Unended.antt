-- Where a turn ends, and which turn follows it.
use Rattle.std.specs.Prelude.{◌≡◌, ◌-◌, ℕ, suc, Bool, false, ◌&&◌, Option, Some, None, nat_eq, slice_get}
use Rattle.std.specs.Str.{bytes_eq}
use Rattle.aud_tap.specs.declared.records.NodeRec.{NodeRec}
use Rattle.aud_tap.specs.declared.records.NodeRec.TheVariants.{Broke}
use Rattle.aud_node.specs.Stream.{Text}
use Rattle.aud_node.specs.Cluster.{Cluster, node_log}
use Rattle.aud_node.specs.OwnPlaces.{own_places}
use Rattle.aud_rooms.specs.Turns.{Turn}
use Rattle.aud_maker.specs.Begun.{turn_begun}
use Rattle.aud_session_facts.specs.Places.{record_at}
use Rattle.aud_session_facts.specs.Private.Astray.{ends_at}

-- this turn was found to be the session's turn k, and its last record is no `break` and no `gone`
pub record IsOpenEnd (c : Cluster) (pid : Text) (k : ℕ) (t : Turn) : Type 0 where
  pub begun : turn_begun c (own_places c pid) pid k ≡ Some t
  pub ends_not : ends_at pid (record_at c (record { node = t.node; number = t.to - 1 })) ≡ false

-- there is no turn after turn k, or it is this one
abbrev pub IsNext : Cluster → Text → ℕ → Option Turn → Type 0
IsNext c pid k None = Unit {0}
IsNext c pid k (Some t) = turn_begun c (own_places c pid) pid (suc k) ≡ Some t

-- there is a record, and it is the session's `break` k
abbrev pub is_break_at : Text → ℕ → Option NodeRec → Bool
is_break_at pid k (Some (Broke other number)) = bytes_eq other pid && nat_eq number k
is_break_at pid k _ = false

-- the log of this node has no `break` k of the session
abbrev pub HasNoBreakOn : Cluster → ℕ → Text → ℕ → Type 0
HasNoBreakOn c node pid k = (number : ℕ) → slice_get (node_log c node) number ≡ Some (Broke pid k) → ⊥
