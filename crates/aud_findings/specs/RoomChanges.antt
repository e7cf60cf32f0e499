-- The changes of rooms that decide whether an entry was due to a session.
use Rattle.std.specs.Prelude.{ℕ, Bool, true, false, List, [], map, Option, Some, None, if◌then◌else◌, is_some, slice_get}
use Rattle.std.specs.List.{find}
use Rattle.std.specs.Option.{option_map, option_and_then}
use Rattle.aud_tap.specs.declared.records.StreamRec.{StreamRec}
use Rattle.aud_tap.specs.declared.records.StreamRec.TheVariants.{Ev}
use Rattle.aud_node.specs.Cluster.{Cluster}
use Rattle.aud_node.specs.Stream.{Text, entry}
use Rattle.aud_rooms.specs.Turns.{Turn}
use Rattle.aud_cert.specs.Certificate.{CertificateSeen, turn_at}
use Rattle.aud_maker.specs.Made.{IsMade}
use Rattle.aud_merge.specs.declared.step.Step.{Step}
use Rattle.aud_merge.specs.ByTurns.{reaching_step}
use Rattle.aud_session_facts.specs.declared.change.RoomChange.{RoomChange}
use Rattle.aud_session_facts.specs.declared.reach.Reach.{Reach}
use Rattle.aud_session_facts.specs.Changes.{last_change_before}
use Rattle.aud_session_facts.specs.NotDue.{why_not_due}
use Rattle.aud_session_facts.specs.Reach.{first_turn_reaching}
use Rattle.aud_session_facts.specs.Reasons.{Reason, NoCommonRoom, Excepted}

-- where the session of these turns first reached the position
abbrev pub reach_of : Cluster → List Turn → ℕ → Option Reach
reach_of c turns p =
    option_and_then
    (λ turn. option_map (λ (step : Step). record { turn = turn; node = step.log; number = step.index }) (reaching_step c turns p))
    (first_turn_reaching c turns p)

-- the end of the turn in which the position was reached: after its last record
abbrev pub turn_end : List Turn → Reach → Option Reach
turn_end turns reach = option_map (λ (t : Turn). record reach { number = t.to }) (slice_get turns reach.turn)

-- the rooms that an event is for; none of another entry
abbrev pub rooms_in : Option StreamRec → List Text
rooms_in (Some (Ev event)) = event.rooms
rooms_in _ = []

-- ---- of a session's certificate

-- the turns in the nodes' logs
abbrev pub turns_in : Cluster → CertificateSeen → List Turn
turns_in c cert = map (turn_at c) cert.turns

-- the change, where it is a join or a leave as asked for
abbrev pub only_if : Bool → RoomChange → Option RoomChange
only_if true change = if change.joined then Some change else None
only_if false change = if change.joined then None else Some change

-- the last change of the room before the reach, if it is a join or a leave as asked for
abbrev pub change_in : Cluster → CertificateSeen → Reach → Bool → Text → Option RoomChange
change_in c cert reach joined room = option_and_then (only_if joined) (last_change_before c cert.pid room (turns_in c cert) reach)

-- there is such a change
abbrev pub is_changed : Cluster → CertificateSeen → Reach → Bool → Text → Bool
is_changed c cert reach joined room = is_some (change_in c cert reach joined room)

-- that of the first of the entry's rooms that has one, where the session reached the entry
abbrev pub room_change : Cluster → CertificateSeen → Bool → ℕ → Option RoomChange
room_change c cert joined p =
    option_and_then
    (λ reach. option_and_then (change_in c cert reach joined) (find (is_changed c cert reach joined) (rooms_in (entry c.stream p))))
    (reach_of c (turns_in c cert) p)

-- of the first of the entry's rooms that the session held by a join where it reached the entry, the last change before
-- the end of that turn, if it is a leave
abbrev pub left_change : Cluster → CertificateSeen → ℕ → Option RoomChange
left_change c cert p =
    option_and_then
    (λ reach. option_and_then (λ room. option_and_then (λ end. change_in c cert end false room) (turn_end (turns_in c cert) reach))
    (find (is_changed c cert reach true) (rooms_in (entry c.stream p))))
    (reach_of c (turns_in c cert) p)

-- why the entry was not due, for this reason: the leave of the first of its rooms that the session had left, or the
-- join of the excepted room; none for another reason
abbrev pub change_for : Cluster → CertificateSeen → ℕ → Reason → Option RoomChange
change_for c cert p NoCommonRoom = room_change c cert false p
change_for c cert p (Excepted room) = option_and_then (λ reach. change_in c cert reach true room) (reach_of c (turns_in c cert) p)
change_for c cert p _ = None

abbrev pub not_due_change : (c : Cluster) → (cert : CertificateSeen) → IsMade c cert.pid cert → ℕ → Option RoomChange
not_due_change c cert made p = option_and_then (change_for c cert p) (why_not_due c made.who made.turns p)
