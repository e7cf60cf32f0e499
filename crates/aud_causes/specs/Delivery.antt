-- What a difference may come from, by its facts, and by what came in its stays.
use Rattle.std.specs.Prelude.{ℕ, Bool, false, not, ◌&&◌, ◌||◌, List, find, flat_map, Option, Some, None, option_to_list, if◌then◌else◌, nat_eq, nat_lt, nat_le, slice_get}
use Rattle.std.specs.Option.{option_and_then, option_map, option_map_or}
use Rattle.aud_client.specs.StaySeen.{FrameSeen, StaySeen}
use Rattle.aud_causes.specs.declared.cause.Cause.{Cause}
use Rattle.aud_causes.specs.declared.cause.Cause.TheVariants.{SentAgainAfterReplay, ReplayIncludesOffset, StaleOffset, SkippedInWindow}
use Rattle.aud_causes.specs.declared.facts.Replay.{Replay}
use Rattle.aud_causes.specs.declared.facts.Facts.{Facts}

-- the cause, where it holds
abbrev pub cause_if : Bool → Cause → Option Cause
cause_if holds cause = if holds then Some cause else None

-- those of the causes that hold
abbrev pub held : List (Option Cause) → List Cause
held causes = flat_map option_to_list causes

-- the position is one that the node had to send again
abbrev pub is_replayed : Replay → ℕ → Bool
is_replayed replay p = nat_lt replay.after p && nat_le p replay.low

-- the entry came in no replay, for sure: the stays match the turns, and the later one is no recovery, or the entry isn't
-- one that was to be replayed in it
abbrev pub is_outside : Facts → Bool
is_outside f = f.matched && (not f.recovered || option_map_or (λ (replay : Replay). not (is_replayed replay f.parted.position)) f.replay false)

-- no recovery stands between the two frames, and the entry came in no replay
abbrev pub is_live : Facts → Bool
is_live f = nat_eq f.earlier f.later && is_outside f

-- both frames stand in one recovery, in which the entry was to be sent again
abbrev pub is_in_replay : Facts → Bool
is_in_replay f = nat_eq f.earlier f.later && option_map_or (λ (replay : Replay). is_replayed replay f.parted.position) f.replay false

-- the stays match the turns, and the session was not taken back in the later one, or the node took the entry after that
abbrev pub is_taken_live : Facts → Bool
is_taken_live f = f.matched && (not f.recovered || option_map_or (λ (replay : Replay). nat_lt replay.low f.parted.position) f.replay false)

-- the position of the first of the frames that is past this one
abbrev pub first_past : ℕ → List FrameSeen → Option ℕ
first_past low frames = option_map (λ (frame : FrameSeen). frame.position) (find (λ (frame : FrameSeen). nat_lt low frame.position) frames)

-- that of the first in the later stay that is past what was to be replayed
abbrev pub first_taken : List StaySeen → Facts → Replay → Option ℕ
first_taken stays f replay = option_and_then (λ (stay : StaySeen). first_past replay.low stay.frames) (slice_get stays f.later)

-- both frames stand in one stay whose replay is known, and the entry that came twice is the first past the node's
-- cursor at the `back`: the replay ran on past the cursor, and then the node sent what it took itself
abbrev pub sent_again : List StaySeen → Facts → Option Cause
sent_again stays f =
    option_and_then
    (λ (replay : Replay).
    option_and_then
    (λ past. cause_if (nat_eq f.earlier f.later && nat_eq past f.parted.position) (SentAgainAfterReplay f.parted.first f.parted.again replay.low))
    (first_taken stays f replay))
    f.replay

-- the first frame in the later stay, if there is one
abbrev pub first_came : List StaySeen → Facts → Option FrameSeen
first_came stays f = option_and_then (λ (stay : StaySeen). slice_get stay.frames 0) (slice_get stays f.later)

-- the client had the entry in an earlier stay, and asked to go on after it; and the first that came then was that entry
-- again: the replay began at the offset in place of after it
abbrev pub replay_includes_offset : List StaySeen → Facts → Option Cause
replay_includes_offset stays f =
    option_and_then
    (λ after.
    option_and_then
    (λ (frame : FrameSeen).
    cause_if (nat_lt f.earlier f.later && nat_eq after f.parted.position && nat_eq frame.position after) (ReplayIncludesOffset f.later f.parted.again after))
    (first_came stays f))
    f.asked

-- the client had the entry in an earlier stay, and asked to go on after one before it
abbrev pub stale_offset : Facts → Option Cause
stale_offset f = option_and_then (λ after. cause_if (nat_lt f.earlier f.later && nat_lt after f.parted.position) (StaleOffset f.later after)) f.asked

-- the entry is one that the node had to send again
abbrev pub skipped_in_window : Facts → Option Cause
skipped_in_window f =
    option_and_then
    (λ (replay : Replay). cause_if (is_replayed replay f.parted.position) (SkippedInWindow f.later replay.after replay.low))
    f.replay
