-- A node that took a session back while it was behind the break.
use Rattle.std.specs.Prelude.{◌-◌, List, Option, None, if◌then◌else◌, ◌&&◌, nat_lt, slice_get}
use Rattle.std.specs.Option.{option_and_then, option_map}
use Rattle.aud_node.specs.Cluster.{Cluster}
use Rattle.aud_cert.specs.Certificate.{TurnSeen, turn_at}
use Rattle.aud_session_facts.specs.Ahead.{ahead_of}
use Rattle.aud_session_facts.specs.declared.place.RecordPlace.{RecordPlace}
use Rattle.aud_causes.specs.declared.cause.Cause.{Cause}
use Rattle.aud_causes.specs.declared.cause.Cause.TheVariants.{NodeBehindBreak}
use Rattle.aud_causes.specs.declared.facts.Facts.{Facts}

-- the places of a turn's first and last record
abbrev pub first_of : Cluster → TurnSeen → RecordPlace
first_of c t = record { node = (turn_at c t).node; number = (turn_at c t).from }

abbrev pub last_of : Cluster → TurnSeen → RecordPlace
last_of c t = record { node = (turn_at c t).node; number = (turn_at c t).to - 1 }

-- the break of one turn, and the `back` of a later one whose node was behind that, with the cursors there
abbrev pub behind : Cluster → TurnSeen → TurnSeen → Cause
behind c t before = NodeBehindBreak (last_of c before) (first_of c t) before.high t.low

-- the two frames stand in two stays, these match the turns, and the turn of the later one begins before the entry, which
-- a turn before it had reached
abbrev pub node_behind : Cluster → List TurnSeen → Facts → Option Cause
node_behind c turns f =
    if f.matched && nat_lt f.earlier f.later
    then option_and_then (λ t. option_map (behind c t) (ahead_of f.parted.position turns f.later)) (slice_get turns f.later)
    else None
