-- What is told of a replay by the rooms at the break.
use Rattle.std.proofs.Common.{◌≡◌, ◌&&◌, Bool, List, Some, ap, ◌∙◌}
use Rattle.std.specs.Option.{option_and_then}
use Rattle.aud_node.specs.Cluster.{Cluster}
use Rattle.aud_client.specs.StaySeen.{StaySeen}
use Rattle.aud_rooms.specs.Turns.{Who, Turn}
use Rattle.aud_causes.specs.declared.cause.Cause.TheVariants.{RoomsAtBreak}
use Rattle.aud_causes.specs.declared.facts.Replay.{Replay}
use Rattle.aud_causes.specs.declared.facts.Facts.{Facts}
use Rattle.aud_causes.specs.Delivery.{cause_if, is_replayed}
use Rattle.aud_causes.specs.AtBreak.{is_by_rooms_at_break, rooms_at_break}

-- what holds of it, where the replay is known
pub by_rooms : (c : Cluster) (who : Who) (turns : List Turn) (stays : List StaySeen) (f : Facts) (replay : Replay) (replayed by : Bool)
    → f.replay ≡ Some replay → is_replayed replay f.parted.position ≡ replayed → is_by_rooms_at_break c who turns stays f.later replay ≡ by
    → rooms_at_break c who turns stays f ≡ cause_if (replayed && by) (RoomsAtBreak f.later replay.after replay.low)
by_rooms c who turns stays f replay replayed by known replayed_is by_is =
    ap
    (option_and_then
    (λ (r : Replay).
    cause_if (is_replayed r f.parted.position && is_by_rooms_at_break c who turns stays f.later r) (RoomsAtBreak f.later r.after r.low)))
    known
    ∙ (λ i. cause_if (replayed_is i && by_is i) (RoomsAtBreak f.later replay.after replay.low))
