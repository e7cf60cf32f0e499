-- Why an event came that was not due, by the reason for which it wasn't.
use Rattle.std.specs.Prelude.{ℕ, ◌-◌, Bool, true, false, not, ◌&&◌, List, [], ◌∷◌, length, Option, Some, None, if◌then◌else◌, slice_get}
use Rattle.std.specs.Option.{option_map, option_map_or, option_and_then, option_or}
use Rattle.aud_tap.specs.declared.records.StreamRec.{StreamRec}
use Rattle.aud_tap.specs.declared.records.StreamRec.TheVariants.{Ev}
use Rattle.aud_node.specs.Cluster.{Cluster}
use Rattle.aud_node.specs.Stream.{Text, entry}
use Rattle.aud_node.specs.TurnRecords.{ends_any_turn}
use Rattle.aud_rooms.specs.Spans.{RoomSpan}
use Rattle.aud_rooms.specs.Turns.{Turn}
use Rattle.aud_cert.specs.Certificate.{TurnSeen}
use Rattle.aud_session_facts.specs.declared.place.RecordPlace.{RecordPlace}
use Rattle.aud_merge.specs.declared.step.Step.{Step}
use Rattle.aud_merge.specs.ByTurns.{reaching_step}
use Rattle.aud_session_facts.specs.Opened.{greatest_turn_high}
use Rattle.aud_session_facts.specs.declared.reach.Reach.{Reach}
use Rattle.aud_session_facts.specs.declared.change.RoomChange.{RoomChange}
use Rattle.aud_session_facts.specs.Changes.{last_change_before}
use Rattle.aud_session_facts.specs.Reach.{first_turn_reaching}
use Rattle.aud_session_facts.specs.Reasons.{Reason, BeforeBirth, InNoTurn, OtherNamespace, NoCommonRoom, Excepted}
use Rattle.aud_causes.specs.declared.cause.Cause.{Cause}
use Rattle.aud_causes.specs.declared.cause.Cause.TheVariants as cause
use Rattle.aud_causes.specs.declared.facts.Facts.{Facts}
use Rattle.aud_causes.specs.Behind.{first_of, last_of}
use Rattle.aud_causes.specs.Changed.{fits_with, fits_with_any}
use Rattle.aud_causes.specs.Delivery.{cause_if, is_outside}

-- ---- the log that ends early

-- the turn's last record is no `break` and no `gone` of the session: the log ends in the turn
abbrev pub goes_on : Text → TurnSeen → Bool
goes_on pid t = not (option_map_or (ends_any_turn pid) (slice_get t.recs (length t.recs - 1)) false)

-- the last of the turns
abbrev pub last_turn : List TurnSeen → Option TurnSeen
last_turn turns = slice_get turns (length turns - 1)

-- the log of the last turn ends in it
abbrev pub ended_in : Cluster → Text → List TurnSeen → TurnSeen → Option Cause
ended_in c pid turns t = if goes_on pid t then Some (cause.LogEndedEarly (last_of c t) (greatest_turn_high turns)) else None

-- the session reached the entry in no turn, and the log of its last turn ends in it
abbrev pub log_ended_early : Cluster → Text → List TurnSeen → Option Reason → Option Cause
log_ended_early c pid turns (Some InNoTurn) = option_and_then (ended_in c pid turns) (last_turn turns)
log_ended_early c pid turns _ = None

-- ---- the turn that had ended

-- the turn's last record is the session's `break`, or its `gone`
abbrev pub ended_by_log : Cluster → Text → TurnSeen → Option Cause
ended_by_log c pid t = if goes_on pid t then None else Some (cause.SentAfterEnd (last_of c t) t.high)

-- the session reached the entry in no turn; the stays match the turns, and the log of the turn in which the event came has
-- its end
abbrev pub sent_after_end : Cluster → Text → List TurnSeen → Option Reason → Facts → Option Cause
sent_after_end c pid turns (Some InNoTurn) f = if f.matched then option_and_then (ended_by_log c pid) (slice_get turns f.later) else None
sent_after_end c pid turns _ f = None

-- ---- before the birth

-- the node had taken the entry when it opened the session
abbrev pub before_birth : Cluster → List TurnSeen → Option Reason → Option Cause
before_birth c turns (Some BeforeBirth) = option_map (λ (t : TurnSeen). cause.BeforeBirth (first_of c t) t.low) (slice_get turns 0)
before_birth c turns _ = None

-- ---- a room that was left

-- where the session of these turns first reached the position
abbrev pub reached_at : Cluster → List Turn → ℕ → Option Reach
reached_at c turns p =
    option_and_then
    (λ turn. option_map (λ (step : Step). record { turn = turn; node = step.log; number = step.index }) (reaching_step c turns p))
    (first_turn_reaching c turns p)

-- the record, if it is one by which the room was left
abbrev pub leave_of : RoomChange → Option RecordPlace
leave_of change = if change.joined then None else Some (record { node = change.node; number = change.number })

-- the last record, before the reach, by which the session changed the first of these rooms that it had left there
abbrev pub first_left : Cluster → Text → List Turn → Reach → List Text → Option RecordPlace
first_left c pid turns reach [] = None
first_left c pid turns reach (room ∷ rooms) =
    option_or (option_and_then leave_of (last_change_before c pid room turns reach)) (first_left c pid turns reach rooms)

-- the rooms that the entry is for, if it is an event
abbrev pub rooms_named : Option StreamRec → List Text
rooms_named (Some (Ev event)) = event.rooms
rooms_named _ = []

-- the session held none of the entry's rooms when it reached the entry, and had left one of them
abbrev pub late_leave : Cluster → Text → List Turn → ℕ → Option Reason → Option Cause
late_leave c pid turns p (Some NoCommonRoom) =
    option_map cause.LateLeave
    (option_and_then (λ reach. first_left c pid turns reach (rooms_named (entry c.stream p))) (reached_at c turns p))
late_leave c pid turns p _ = None

-- ---- sent to a session to which it wasn't addressed

-- it is an event of another namespace, or for no room that the session held, or it excepts one that the session held
abbrev pub is_unaddressed : Option Reason → Bool
is_unaddressed (Some OtherNamespace) = true
is_unaddressed (Some NoCommonRoom) = true
is_unaddressed (Some (Excepted room)) = true
is_unaddressed _ = false

-- the entry was not addressed to the session when the session reached it, and came in no replay; told where there is no
-- cause that says how that came to be
abbrev pub extra_live : Option Cause → Option Reason → Facts → Option Cause
extra_live (Some told) why f = None
extra_live None why f = cause_if (is_outside f && is_unaddressed why) (cause.ExtraLive f.parted.again)

-- ---- a change of rooms that no log has

-- the entry came in no replay; and what came from it on is what was due if the session of these turns and spans had joined
-- one of its rooms before, or had left the one that it excepts, where these are the positions of all that came
abbrev pub change_missing : Cluster → Text → List TurnSeen → List RoomSpan → List ℕ → Option Reason → Facts → Option Cause
change_missing c pid turns spans came (Some NoCommonRoom) f =
    cause_if
    (is_outside f && fits_with_any c pid turns spans came true f.parted.position (rooms_named (entry c.stream f.parted.position)))
    (cause.JoinMissing f.parted.again)
change_missing c pid turns spans came (Some (Excepted room)) f =
    cause_if (is_outside f && fits_with c pid turns spans came false f.parted.position room) (cause.LeaveMissing f.parted.again)
change_missing c pid turns spans came _ f = None
