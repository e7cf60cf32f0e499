-- The turns of a session: consecutive records of nodes' logs, from its `open` or a `back` to the next break or the end.
use Rattle.std.specs.Prelude.{◌≡◌, ◌<◌, ◌≤◌, ℕ, zero, suc, true, List, [], ◌∷◌, length, Option, Some, None, if◌then◌else◌, nat_eq, slice_get, ◌⊎◌}
use Rattle.std.specs.Str.{bytes_eq}
use Rattle.aud_tap.specs.declared.records.NodeRec.{NodeRec}
use Rattle.aud_tap.specs.declared.records.NodeRec.TheVariants.{Opened, Broke, Back, Gone}
use Rattle.aud_node.specs.Lists.{between}
use Rattle.aud_node.specs.Stream.{Text}
use Rattle.aud_node.specs.Cursors.{cursor_at}
use Rattle.aud_node.specs.Cluster.{Cluster, node_log}
use Rattle.aud_node.specs.TurnRecords.{pid_of, begins_turn}

-- the session, as its `open` names it
pub record Who : Type 0 where
  pub pid : Text
  pub sid : Text
  pub nsp : Text

-- records of the log of the tap at this place, from a number on and before another; numbers count from 0
pub record Turn : Type 0 where
  pub node : ℕ
  pub from : ℕ
  pub to : ℕ

-- consecutive records of a node's log, and the node's cursor after the first and after the last of them
pub record Slice : Type 0 where
  pub low : ℕ
  pub high : ℕ
  pub recs : List NodeRec

-- the records of a turn, with their cursors
abbrev pub slice_of : Cluster → Turn → Slice
slice_of c t =
    record {
      low = cursor_at c.stream (node_log c t.node) (suc t.from);
      high = cursor_at c.stream (node_log c t.node) t.to;
      recs = between (node_log c t.node) t.from t.to;
    }

-- the record that begins turn k of the session
abbrev pub beginning : Who → ℕ → NodeRec
beginning who zero = Opened who.pid who.sid who.nsp
beginning who (suc k) = Back who.pid (suc k)

-- how the records of a turn end: with the session's break, with the session, or with neither of them
pub data End : Type 0 where
  ByBreak : End
  ByGone : End
  ByLog : End

-- what a record after the first one is to turn k of the session
pub data Part : Type 0 where
  Inner : Part
  Last : End → Part
  Foreign : Part

-- the session's `open` and `back` and its `break` of another number are no part of turn k; its `break` k and its
-- `gone` are the turn's last record; all else stands inside
abbrev pub part_of : Text → ℕ → NodeRec → Part
part_of pid k (Opened other sid nsp) = if bytes_eq other pid then Foreign else Inner
part_of pid k (Back other number) = if bytes_eq other pid then Foreign else Inner
part_of pid k (Broke other number) = if bytes_eq other pid then (if nat_eq number k then Last ByBreak else Foreign) else Inner
part_of pid k (Gone other) = if bytes_eq other pid then Last ByGone else Inner
part_of pid k _ = Inner

-- the end of the records from one on that is such a part, where the records after it have this end
abbrev pub end_past : Part → List NodeRec → Option End → Option End
end_past Inner recs end = end
end_past (Last last) [] end = Some last
end_past (Last last) (rec ∷ recs) end = None
end_past Foreign recs end = None

-- how turn k ends, whose records after the first one these are; none where they aren't records of it
abbrev pub turn_end : Text → ℕ → List NodeRec → Option End
turn_end pid k [] = Some ByLog
turn_end pid k (rec ∷ recs) = end_past (part_of pid k rec) recs (turn_end pid k recs)

-- how a turn may end before these later turns: before others by its break alone, the last one also with the session
-- or with the log
abbrev pub MayEnd : Cluster → Turn → List Turn → End → Type 0
MayEnd c t later ByBreak = Unit {0}
MayEnd c t later ByGone = later ≡ []
MayEnd c t later ByLog = (later ≡ []) × (t.to ≡ length (node_log c t.node))

-- the records are turn k of the session, before these later turns
pub record IsTurn (c : Cluster) (who : Who) (k : ℕ) (t : Turn) (later : List Turn) : Type 0 where
  pub within : t.to ≤ length (node_log c t.node)
  pub some : t.from < t.to
  pub begins : slice_get (node_log c t.node) t.from ≡ Some (beginning who k)
  pub end : End
  pub ends : turn_end who.pid k (between (node_log c t.node) (suc t.from) t.to) ≡ Some end
  pub may_end : MayEnd c t later end

-- turn after turn, from turn k on
abbrev pub AreTurns : Cluster → Who → ℕ → List Turn → Type 0
AreTurns c who k [] = Unit {0}
AreTurns c who k (t ∷ later) = IsTurn c who k t later × AreTurns c who (suc k) later

-- no log has a record that begins turn k of the session
abbrev pub HasNoTurn : Cluster → Text → ℕ → Type 0
HasNoTurn c pid k = (node i : ℕ) (rec : NodeRec) → slice_get (node_log c node) i ≡ Some rec → begins_turn pid k rec ≡ true → ⊥

-- the record of this node with this number stands in one of the turns
abbrev pub StandsIn : ℕ → ℕ → List Turn → Type 0
StandsIn node number [] = ⊥
StandsIn node number (t ∷ later) = ((t.node ≡ node) × (t.from ≤ number) × (number < t.to)) ⊎ StandsIn node number later

-- all records that name the session, in all logs, stand in these turns
pub record IsChain (c : Cluster) (who : Who) (turns : List Turn) : Type 0 where
  pub some : 0 < length turns
  pub are_turns : AreTurns c who 0 turns
  pub covers : (node number : ℕ) (rec : NodeRec) → slice_get (node_log c node) number ≡ Some rec → pid_of rec ≡ Some who.pid → StandsIn node number turns
