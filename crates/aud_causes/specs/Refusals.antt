-- What the refusal of a recovery may come from.
use Rattle.std.specs.Prelude.{ℕ, ◌-◌, Bool, true, false, ◌||◌, not, List, [], ◌∷◌, length, Option, Some, None, is_some, if◌then◌else◌, nat_le, nat_lt, slice_get, drop, take}
use Rattle.std.specs.List.{find, filter, list_any}
use Rattle.std.specs.Option.{option_map, option_and_then, option_map_or}
use Rattle.aud_node.specs.Cluster.{Cluster}
use Rattle.aud_node.specs.NodeTap.{NodeTap, cursor_after}
use Rattle.aud_node.specs.NodeTaps.{node_at}
use Rattle.aud_node.specs.Stream.{Text, position}
use Rattle.aud_client.specs.Replies.{ReplySeen}
use Rattle.aud_client.specs.StaySeen.{AskedSeen, StaySeen}
use Rattle.aud_session_facts.specs.declared.place.RecordPlace.{RecordPlace}
use Rattle.aud_session_facts.specs.declared.marks.Mark.{Mark}
use Rattle.aud_session_facts.specs.declared.marks.Mark.TheVariants as mark
use Rattle.aud_session_facts.specs.declared.marks.TurnMark.{TurnMark}
use Rattle.aud_session_facts.specs.Marks.{turn_marks}
use Rattle.aud_causes.specs.declared.cause.Cause.{Cause}
use Rattle.aud_causes.specs.declared.cause.Cause.TheVariants.{NoOffset, UnknownOffset, SessionOver, NodeEndedInTurn, NeverBroken, AskedTooEarly}
use Rattle.aud_causes.specs.Delivery.{cause_if, held}
use Rattle.aud_causes.specs.Turns.{is_ended, last_begin, last_turn, is_broken}
use Rattle.aud_causes.specs.NamedEntries.{is_named}
use Rattle.aud_causes.specs.Twice.{is_open}
use Rattle.std.specs.Str.{bytes_eq}
use Rattle.aud_client.specs.Received.{stay_names_pid}

-- ---- the offset

-- the stream has no such position, and no node's log names the entry of this offset
abbrev pub unknown_offset : Cluster → Text → Option ℕ → Option Cause
unknown_offset c off None = cause_if (not (is_named c off)) (UnknownOffset 0)
unknown_offset c off (Some p) = None

-- the client gave no offset, or one that neither the stream nor a node's log has
abbrev pub offset_cause : Cluster → Option Text → Option Cause
offset_cause c None = Some (NoOffset 0)
offset_cause c (Some off) = unknown_offset c off (position c.stream off)

-- ---- the records that begin and end turns

-- it is the session's `gone`
abbrev pub is_gone : Mark → Bool
is_gone mark.Gone = true
is_gone _ = false

-- the first by which a node ends the session
abbrev pub session_over : List TurnMark → Option Cause
session_over marks = option_map (λ (m : TurnMark). SessionOver m.place) (find (λ (m : TurnMark). is_gone m.mark) marks)

-- the first by which a node opens it
abbrev pub first_open : List TurnMark → Option RecordPlace
first_open marks = option_map (λ (m : TurnMark). m.place) (find (λ (m : TurnMark). is_open m.mark) marks)

-- the break of the last turn that has one, where this is the last so far, of this turn
abbrev pub last_break : ℕ → Option RecordPlace → List TurnMark → Option RecordPlace
last_break turn last [] = last
last_break turn last (m ∷ marks) = last_break (turn_by turn m.mark) (break_by turn last m.place m.mark) marks
  where
    turn_by : ℕ → Mark → ℕ
    turn_by turn (mark.Break broken) = if nat_le turn broken then broken else turn
    turn_by turn _ = turn

    break_by : ℕ → Option RecordPlace → RecordPlace → Mark → Option RecordPlace
    break_by turn last place (mark.Break broken) = if nat_le turn broken then Some place else last
    break_by turn last place _ = last

-- ---- the last turn

-- the last record in the log of the node at this place
abbrev pub last_record : Cluster → ℕ → Option RecordPlace
last_record c node = option_map (λ (tap : NodeTap). record { node = node; number = length tap.recs - 1 }) (node_at c node)

-- the log of its node ends in the turn that this record begins
abbrev pub ended_in : Cluster → List TurnMark → RecordPlace → Option Cause
ended_in c marks begin = if is_ended marks begin then None else option_map NodeEndedInTurn (last_record c begin.node)

-- the log of a node ends in the session's last turn
abbrev pub node_ended : Cluster → List TurnMark → Option Cause
node_ended c marks = option_and_then (ended_in c marks) (last_begin marks)

-- no log has a break of the session's last turn, and none has its end
abbrev pub never_broken : List TurnMark → Option Cause
never_broken marks = if is_broken marks (last_turn marks) || is_some (session_over marks) then None else option_map NeverBroken (last_begin marks)

-- the node's cursor after the record at this place
abbrev pub cursor_there : Cluster → RecordPlace → Option ℕ
cursor_there c place = option_and_then (λ (tap : NodeTap). cursor_after tap place.number) (node_at c place.node)

-- the break's cursor is past that of the `open`
abbrev pub broke_past : Cluster → RecordPlace → RecordPlace → Option Cause
broke_past c broke begin =
    option_and_then
    (λ high. option_and_then (λ low. cause_if (nat_lt low high) (AskedTooEarly broke begin high low)) (cursor_there c begin))
    (cursor_there c broke)

-- the session broke with its node's cursor past the one with which the session was opened that the client got: the
-- server noticed the break after the client had come back
abbrev pub asked_too_early : Cluster → List TurnMark → List TurnMark → Option Cause
asked_too_early c marks opening =
    option_and_then (λ broke. option_and_then (broke_past c broke) (first_open opening)) (last_break 0 None marks)

-- ---- whether the session was taken back in the stay, or later

-- the client asks for the session in the stay
abbrev pub asks_for : Text → StaySeen → Bool
asks_for pid stay = option_map_or (λ (asked : AskedSeen). bytes_eq asked.pid pid) stay.asked false

-- how often it does so in these stays
abbrev pub count_asks : Text → List StaySeen → ℕ
count_asks pid stays = length (filter (asks_for pid) stays)

-- the session was taken back in the stay with this number of its client's tap, or later: a recovery begins one turn, and
-- the session has more turns after its first than recoveries were asked for before; or the client got it back
abbrev pub is_taken_back : List TurnMark → List StaySeen → ℕ → Text → Bool
is_taken_back marks stays number pid =
    nat_lt (count_asks pid (take number stays)) (last_turn marks) || list_any (stay_names_pid pid) (drop number stays)

-- the records that begin and end its turns, where its last turn is one before that stay: none where it was taken back
abbrev pub marks_before : List TurnMark → List StaySeen → ℕ → Text → List TurnMark
marks_before marks stays number pid = if is_taken_back marks stays number pid then [] else marks

-- ---- the causes, in their order

-- the session that a reply names; the empty text where there is none
abbrev pub got_of : Option ReplySeen → Text
got_of None = []
got_of (Some reply) = pid_or_empty reply.pid
  where
    pid_or_empty : Option Text → Text
    pid_or_empty None = []
    pid_or_empty (Some pid) = pid

-- where the client asked for this in the stay with this number, and got this session: the offset; the session was over; a
-- node's log ends in it; it had not broken; the client asked too early. The session's records count where the last of them is
-- one before the client asked
abbrev pub asked_causes : Cluster → List StaySeen → ℕ → AskedSeen → Text → List Cause
asked_causes c stays number asked got =
    let marks = turn_marks c asked.pid in
    let before = marks_before marks stays number asked.pid in
    held
    (offset_cause c asked.offset ∷ session_over before ∷ node_ended c before ∷ never_broken before
    ∷ asked_too_early c marks (turn_marks c got) ∷ [])

-- where this was asked for
abbrev pub causes_of_asked : Cluster → List StaySeen → ℕ → Option AskedSeen → Text → List Cause
causes_of_asked c stays number None got = []
causes_of_asked c stays number (Some asked) got = asked_causes c stays number asked got

-- of the stay with this number, if there is one
abbrev pub stay_causes : Cluster → List StaySeen → ℕ → Option StaySeen → List Cause
stay_causes c stays number None = []
stay_causes c stays number (Some stay) = causes_of_asked c stays number stay.asked (got_of stay.reply)

-- where the recovery was refused in the stay with this number, of these of its client's tap
abbrev pub refusal_causes : Cluster → List StaySeen → ℕ → List Cause
refusal_causes c stays number = stay_causes c stays number (slice_get stays number)
