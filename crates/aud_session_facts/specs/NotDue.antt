-- Why an entry is not due to a session.
use Rattle.std.specs.Prelude.{ℕ, List, map, Option, Some, None, if◌then◌else◌, not, ◌||◌}
use Rattle.std.specs.List.{find, list_any}
use Rattle.std.specs.Option.{option_map}
use Rattle.std.specs.Str.{bytes_eq}
use Rattle.std.specs.FinSet as set
use Rattle.aud_tap.specs.declared.records.Event.{Event}
use Rattle.aud_tap.specs.declared.records.StreamRec.{StreamRec}
use Rattle.aud_tap.specs.declared.records.StreamRec.TheVariants.{Ev, Other}
use Rattle.aud_node.specs.Lists.{is_empty}
use Rattle.aud_node.specs.Stream.{Text, entry}
use Rattle.aud_node.specs.Recoverable.{is_recoverable}
use Rattle.aud_node.specs.Cluster.{Cluster}
use Rattle.aud_rooms.specs.Rooms.{Rooms}
use Rattle.aud_rooms.specs.Turns.{Who, Turn, slice_of}
use Rattle.aud_rooms.specs.TurnsDue.{is_past_first}
use Rattle.aud_merge.specs.ByTurns.{rooms_of_turns}
use Rattle.aud_session_facts.specs.declared.not_due.NotDue.{NotDue}
use Rattle.aud_session_facts.specs.declared.not_due.NotDue.TheVariants as found
use Rattle.aud_session_facts.specs.Reasons.{Reason, BeforeBirth, InNoTurn, OtherNamespace, NotRecoverable, NoCommonRoom, Excepted}

-- the reason that was found, with the room as its bytes
abbrev pub reason_of : NotDue → Reason
reason_of found.BeforeBirth = BeforeBirth
reason_of found.InNoTurn = InNoTurn
reason_of found.OtherNamespace = OtherNamespace
reason_of found.NotRecoverable = NotRecoverable
reason_of found.NoCommonRoom = NoCommonRoom
reason_of (found.Excepted room) = Excepted room.now

-- why the event is not for a session of this namespace that holds these rooms: the first of the reasons that holds
abbrev pub why_no_event_for : Event → Text → Rooms → Option Reason
why_no_event_for event nsp held =
    if not (bytes_eq event.nsp nsp) then Some OtherNamespace
    else if not (is_recoverable (Ev event)) then Some NotRecoverable
    else if not (is_empty event.rooms || list_any (set.contains held) event.rooms) then Some NoCommonRoom
    else option_map Excepted (find (set.contains held) event.except)

-- the same of an entry, if there is one; what is no event is not recoverable
abbrev pub why_not_for : Option StreamRec → Text → Rooms → Option Reason
why_not_for None nsp held = Some NotRecoverable
why_not_for (Some (Ev event)) nsp held = why_no_event_for event nsp held
why_not_for (Some (Other off)) nsp held = Some NotRecoverable

-- the same for the rooms at the position, if it was reached
abbrev pub why_not_for_rooms : Option StreamRec → Text → Option Rooms → Option Reason
why_not_for_rooms at nsp None = Some InNoTurn
why_not_for_rooms at nsp (Some held) = why_not_for at nsp held

-- why the entry at the position is not due to the session of these turns: the first of the reasons that holds
abbrev pub why_not_due : Cluster → Who → List Turn → ℕ → Option Reason
why_not_due c who turns p =
    if is_past_first (map (slice_of c) turns) p
    then why_not_for_rooms (entry c.stream p) who.nsp (rooms_of_turns c who turns p)
    else Some BeforeBirth
