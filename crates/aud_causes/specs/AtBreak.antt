-- A replay by the rooms that the session held at the break.
use Rattle.std.specs.Prelude.{ℕ, Bool, ◌&&◌, List, [], map, take, Option, Some, None, nat_eq, slice_get}
use Rattle.std.specs.Cmp.Lexicographic.{pointwise}
use Rattle.std.specs.List.{filter}
use Rattle.std.specs.Option.{option_and_then}
use Rattle.aud_node.specs.Cluster.{Cluster}
use Rattle.aud_client.specs.StaySeen.{StaySeen, FrameSeen}
use Rattle.aud_rooms.specs.Turns.{Who, Turn}
use Rattle.aud_session_facts.specs.Missed.{missed_between, rooms_at_break as rooms_held_after}
use Rattle.aud_causes.specs.declared.cause.Cause.{Cause}
use Rattle.aud_causes.specs.declared.cause.Cause.TheVariants.{RoomsAtBreak}
use Rattle.aud_causes.specs.declared.facts.Replay.{Replay}
use Rattle.aud_causes.specs.declared.facts.Facts.{Facts}
use Rattle.aud_causes.specs.Delivery.{cause_if, is_replayed}

-- of the entries that were to be replayed, those that are recoverable and addressed to the rooms that the session held
-- after so many of its turns, with which the last of these breaks left it
abbrev pub due_at_break : Cluster → Who → List Turn → ℕ → Replay → List ℕ
due_at_break c who turns count replay = missed_between c.stream who.nsp (rooms_held_after c who (take count turns)) replay.after replay.low

-- the positions of the stay's frames that were to be replayed, in the order in which they came
abbrev pub came_within : Option StaySeen → Replay → List ℕ
came_within None replay = []
came_within (Some stay) replay = filter (is_replayed replay) (map (λ (frame : FrameSeen). frame.position) stay.frames)

-- exactly those came in the later stay that are addressed to the rooms held at the break before it
abbrev pub is_by_rooms_at_break : Cluster → Who → List Turn → List StaySeen → ℕ → Replay → Bool
is_by_rooms_at_break c who turns stays later replay = pointwise nat_eq (came_within (slice_get stays later) replay) (due_at_break c who turns later replay)

-- the entry was to be replayed, and of all those that were exactly those came that are addressed to the rooms at the
-- break
abbrev pub rooms_at_break : Cluster → Who → List Turn → List StaySeen → Facts → Option Cause
rooms_at_break c who turns stays f =
    option_and_then
    (λ (replay : Replay).
    cause_if (is_replayed replay f.parted.position && is_by_rooms_at_break c who turns stays f.later replay) (RoomsAtBreak f.later replay.after replay.low))
    f.replay
