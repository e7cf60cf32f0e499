-- What a node's record does to the session that it names.
use Rattle.std.specs.Prelude.{ℕ, suc, Option, Some, None, if◌then◌else◌, nat_eq, ◌&&◌}
use Rattle.std.specs.FinSet as set
use Rattle.aud_tap.specs.declared.records.NodeRec.{NodeRec}
use Rattle.aud_tap.specs.declared.records.NodeRec.TheVariants.{Opened, Join, Leave, Broke, Back, Gone}
use Rattle.aud_node.specs.Stream.{Text}
use Rattle.aud_rooms.specs.Rooms.{Rooms, own_room}

-- never opened; on the node whose tap stands at this place, in this turn; away after this turn, to be recovered; over
pub data SessionState : Type 0 where
  Absent : SessionState
  Here : (node turn : ℕ) (sid nsp : Text) (rooms : Rooms) → SessionState
  Away : (turn : ℕ) (sid nsp : Text) (rooms : Rooms) → SessionState
  Ended : SessionState

-- what the record of the node makes of the session that it names; none where it isn't allowed
abbrev pub session_after : ℕ → NodeRec → SessionState → Option SessionState
session_after node (Opened pid sid nsp) Absent = Some (Here node 0 sid nsp (own_room sid))
session_after node (Join pid room) (Here at turn sid nsp rooms) = if nat_eq at node then Some (Here at turn sid nsp (set.insert rooms room)) else None
session_after node (Leave pid room) (Here at turn sid nsp rooms) = if nat_eq at node then Some (Here at turn sid nsp (set.remove rooms room)) else None
session_after node (Broke pid number) (Here at turn sid nsp rooms) = if nat_eq at node && nat_eq turn number then Some (Away turn sid nsp rooms) else None
session_after node (Gone pid) (Here at turn sid nsp rooms) = if nat_eq at node then Some Ended else None
session_after node (Back pid number) (Away turn sid nsp rooms) = if nat_eq number (suc turn) then Some (Here node number sid nsp rooms) else None
session_after node _ _ = None
