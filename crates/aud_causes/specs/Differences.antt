-- What a difference between what was received and what was due may come from.
use Rattle.std.specs.Prelude.{ℕ, not, ◌&&◌, ◌++◌, List, [], ◌∷◌, map, Option, option_to_list, if◌then◌else◌, nat_lt, nat_le}
use Rattle.std.specs.Option.{option_and_then, option_or}
use Rattle.aud_node.specs.Cluster.{Cluster}
use Rattle.aud_client.specs.StaySeen.{StaySeen}
use Rattle.aud_rooms.specs.Spans.{RoomSpan}
use Rattle.aud_rooms.specs.Turns.{Who, Turn}
use Rattle.aud_cert.specs.Certificate.{TurnSeen, turn_at}
use Rattle.aud_maker.specs.Made.{IsMade}
use Rattle.aud_check.specs.Difference.{has_position}
use Rattle.aud_check.specs.Window.{positions_received}
use Rattle.aud_check.specs.declared.difference.Difference.{Difference}
use Rattle.aud_check.specs.declared.difference.Difference.TheVariants.{Extra, Doubled, Swapped, Lost}
use Rattle.aud_session_facts.specs.NotDue.{why_not_due}
use Rattle.aud_session_facts.specs.declared.account.Account.{Account}
use Rattle.aud_causes.specs.declared.cause.Cause.{Cause}
use Rattle.aud_causes.specs.declared.cause.Cause.TheVariants.{DoubledInReplay, DoubledLive, FrameNotRecorded, LostLive, OffsetOfAnotherSession, SwappedInReplay, SwappedLive}
use Rattle.aud_causes.specs.declared.facts.Facts.{Facts}
use Rattle.aud_causes.specs.Facts.{facts_of}
use Rattle.aud_causes.specs.Delivery.{cause_if, held, is_in_replay, is_live, is_taken_live, replay_includes_offset, sent_again, stale_offset, skipped_in_window}
use Rattle.aud_causes.specs.Behind.{node_behind}
use Rattle.aud_causes.specs.Extra.{log_ended_early, sent_after_end, before_birth, late_leave, extra_live, change_missing}
use Rattle.aud_causes.specs.Leavable.{leave_missing}
use Rattle.aud_causes.specs.Unrecorded.{recovery_not_recorded}
use Rattle.aud_causes.specs.AtBreak.{rooms_at_break}
use Rattle.aud_causes.specs.Bodies.{body_twice}

-- ---- what is known of a session

-- a session, as its `open` names it; its turns in the nodes' logs, and as its certificate has them, with the spans of its
-- rooms; the place of its client's tap, the numbers of the stays there whose reply names it, and these stays; and the positions that were due to
-- it
pub record Case : Type 0 where
  pub c : Cluster
  pub who : Who
  pub turns : List Turn
  pub seen : List TurnSeen
  pub spans : List RoomSpan
  pub client : ℕ
  pub numbers : List ℕ
  pub stays : List StaySeen
  pub due : List ℕ

-- that of an account whose certificate was made for the session, where these are the numbers
abbrev pub case_of : (c : Cluster) (account : Account) → List ℕ → IsMade c account.cert.pid account.cert → Case
case_of c account numbers made =
    record {
      c = c;
      who = made.who;
      turns = made.turns;
      seen = account.cert.turns;
      spans = account.cert.spans;
      client = account.client;
      numbers = numbers;
      stays = map (λ stay. stay.now) account.stays.items;
      due = account.due.items;
    }

-- ---- the offset of another session

-- the client asked in the stay to go on after this entry, and it was not due to the session
abbrev pub offset_of_another : List ℕ → ℕ → Option ℕ → Option Cause
offset_of_another due stay asked = option_and_then (λ after. cause_if (not (has_position due after)) (OffsetOfAnotherSession stay after)) asked

-- so it is in the later stay, and the entry in question comes after it
abbrev pub other_session_before : List ℕ → Facts → Option Cause
other_session_before due f =
    option_and_then (λ after. cause_if (nat_lt after f.parted.position && not (has_position due after)) (OffsetOfAnotherSession f.later after)) f.asked

-- the client asked in the later stay to go on after the entry in question, or one that comes after it: that was due to the
-- session, and its frame isn't recorded, since up to there the client's tap has frames of the entries before alone; or it
-- was another session's
abbrev pub asked_past : List ℕ → Facts → Option Cause
asked_past due f =
    option_and_then
    (λ after.
    cause_if (nat_le f.parted.position after)
    (if has_position due after then FrameNotRecorded f.later after else OffsetOfAnotherSession f.later after))
    f.asked

-- ---- the causes, in their order

-- of an entry that came twice, where this holds of a body of polling: the node was behind the break; the node sent again
-- what it had replayed; the replay began at the offset; the offset was stale; that of the body; it came twice in the
-- replay, or while the client was connected
abbrev pub doubled_causes : Cluster → List TurnSeen → List StaySeen → Option Cause → Facts → List Cause
doubled_causes c turns stays body f =
    held
    (node_behind c turns f ∷ sent_again stays f ∷ replay_includes_offset stays f ∷ stale_offset f ∷ body
    ∷ cause_if (is_in_replay f) (DoubledInReplay f.parted.first f.parted.again)
    ∷ cause_if (is_live f) (DoubledLive f.parted.first f.parted.again) ∷ [])

-- of an entry that came late: the node was behind the break; it came late in the replay; two changed places while the
-- client was connected
abbrev pub swapped_causes : Cluster → List TurnSeen → Facts → List Cause
swapped_causes c turns f =
    held
    (node_behind c turns f ∷ cause_if (is_in_replay f) (SwappedInReplay f.parted.first f.parted.again)
    ∷ cause_if (is_live f) (SwappedLive f.parted.first f.parted.again) ∷ [])

-- of an entry of the session that was lost: it was replayed by the rooms at the break; it was left out of the replay; the
-- offset was another session's, or a frame was not recorded; it was left out while the client was connected; a `leave` is
-- missing
abbrev pub lost_in : Case → Facts → List Cause
lost_in s f =
    held
    (rooms_at_break s.c s.who s.turns s.stays f ∷ skipped_in_window f ∷ asked_past s.due f ∷ cause_if (is_taken_live f) (LostLive f.parted.again)
    ∷ leave_missing s.c s.who.pid s.seen s.spans (positions_received s.stays) f ∷ [])

-- of an entry at this position that was not due to the session: the node was behind the break; it was replayed by the rooms
-- at the break; the offset was another session's; a node's log ends early; the turn had ended; a room of it was left; it
-- was taken before the session was opened; it was sent to a session to which it wasn't addressed; a change of rooms is
-- missing
abbrev pub extra_in : Case → Facts → ℕ → List Cause
extra_in s f p =
    let why = why_not_due s.c s.who s.turns p in
    let behind = node_behind s.c s.seen f in
    let left = late_leave s.c s.who.pid (map (turn_at s.c) s.seen) f.parted.position why in
    held
    (behind ∷ rooms_at_break s.c s.who s.turns s.stays f ∷ other_session_before s.due f ∷ log_ended_early s.c s.who.pid s.seen why
    ∷ sent_after_end s.c s.who.pid s.seen why f ∷ left ∷ before_birth s.c s.seen why ∷ extra_live (option_or behind left) why f
    ∷ change_missing s.c s.who.pid s.seen s.spans (positions_received s.stays) why f ∷ [])

-- those that a difference of this kind alone can have, of its facts
abbrev pub causes_by : Case → Difference → Facts → List Cause
causes_by s (Extra frame position) f = extra_in s f position
causes_by s (Doubled first again position) f = doubled_causes s.c s.seen s.stays (body_twice s.c s.client s.numbers f) f
causes_by s (Swapped frame due later) f = swapped_causes s.c s.seen f
causes_by s (Lost frame due) f = lost_in s f

-- of a difference: those, and after them what each difference can have: a recovery was not recorded
abbrev pub difference_causes : Case → Difference → List Cause
difference_causes s difference =
    let f = facts_of s.c.stream s.seen s.stays difference in
    causes_by s difference f ++ option_to_list (recovery_not_recorded s.seen s.stays f)
