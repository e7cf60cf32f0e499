-- A `leave` that no log has, of an entry that was lost.
use Rattle.std.specs.Prelude.{ℕ, ◌==◌, Bool, false, not, ◌&&◌, List, [], length, Option, Some, None}
use Rattle.std.specs.List.{list_any}
use Rattle.std.specs.Str.{bytes_eq}
use Rattle.aud_node.specs.Cluster.{Cluster}
use Rattle.aud_node.specs.Stream.{Text, entry}
use Rattle.aud_rooms.specs.Spans.{RoomSpan}
use Rattle.aud_cert.specs.Certificate.{TurnSeen}
use Rattle.aud_session_facts.specs.Opened.{opened_in}
use Rattle.aud_causes.specs.declared.cause.Cause.{Cause}
use Rattle.aud_causes.specs.declared.cause.Cause.TheVariants.{LeaveMissing}
use Rattle.aud_causes.specs.declared.facts.Facts.{Facts}
use Rattle.aud_causes.specs.Changed.{fits_with_any}
use Rattle.aud_causes.specs.Delivery.{cause_if, is_taken_live}
use Rattle.aud_causes.specs.Extra.{rooms_named}

-- these are rooms, and none of them is the session's own, which it holds for good
abbrev pub are_leavable : Text → List Text → Bool
are_leavable own rooms = not (list_any (bytes_eq own) rooms) && not (length rooms == 0)

-- the room that is named by the sid of the session's `open`
abbrev pub own_room : Option (Text × Text × ℕ) → Text
own_room None = []
own_room (Some opened) = opened.0

-- a `leave` is missing: the entry was left out while the client was connected; the session of these turns and spans can
-- leave each room that it is for; and what came from it on is what was due if the session had left one of them before, where
-- these are the positions of all that came
abbrev pub leave_missing : Cluster → Text → List TurnSeen → List RoomSpan → List ℕ → Facts → Option Cause
leave_missing c pid turns spans came f =
    let rooms = rooms_named (entry c.stream f.parted.position) in
    let fits = fits_with_any c pid turns spans came false f.parted.position rooms in
    cause_if (is_taken_live f && are_leavable (own_room (opened_in turns)) rooms && fits) (LeaveMissing f.parted.again)
