-- Fields that records of several kinds have.
use Rattle.std.specs.Prelude.{ℕ, List, Option, Some, None}
use Rattle.aud_tap.specs.declared.records.StreamRec.{StreamRec}
use Rattle.aud_tap.specs.declared.records.StreamRec.TheVariants.{Ev, Other}
use Rattle.aud_tap.specs.declared.records.NodeRec.{NodeRec}
use Rattle.aud_tap.specs.declared.records.NodeRec.TheVariants.{Start, Take, Takes, Opened, Join, Leave, Broke, Back, Gone}

-- the offset of an entry
abbrev pub offset_of : StreamRec → List ℕ
offset_of (Ev event) = event.off
offset_of (Other off) = off

-- the pid that a node's record names
abbrev pub pid_of : NodeRec → Option (List ℕ)
pid_of (Start off) = None
pid_of (Take off) = None
pid_of (Takes off) = None
pid_of (Opened pid sid nsp) = Some pid
pid_of (Join pid room) = Some pid
pid_of (Leave pid room) = Some pid
pid_of (Broke pid turn) = Some pid
pid_of (Back pid turn) = Some pid
pid_of (Gone pid) = Some pid
