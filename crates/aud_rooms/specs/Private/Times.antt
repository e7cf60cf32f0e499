-- When one room is held, as the builder of spans keeps it.
use Rattle.std.specs.Prelude.{◌≡◌, ◌<◌, ◌≤◌, ℕ, suc, Bool, false, List, [], ◌∷◌, ◌++◌, map, Option, Some, None, if◌then◌else◌, nat_lt, nat_le, ◌&&◌, ◌||◌}
use Rattle.std.specs.List.{list_any}
use Rattle.std.specs.Option.{is_some}
use Rattle.aud_node.specs.Stream.{Text}
use Rattle.aud_rooms.specs.Spans.{RoomSpan}
use Rattle.aud_rooms.specs.declared.interval.Interval.{Interval}

-- the ended intervals in order, and the position past which the room is held until now
pub record Times : Type 0 where
  pub ended : List Interval
  pub since : Option ℕ

-- the position is one of the interval's
abbrev pub is_in_interval : ℕ → Interval → Bool
is_in_interval p i = nat_lt i.after p && nat_le p i.last

-- the position is past that one, if there is one
abbrev pub is_past_start : ℕ → Option ℕ → Bool
is_past_start p None = false
is_past_start p (Some after) = nat_lt after p

-- the room is held at the position
abbrev pub is_held_at : ℕ → Times → Bool
is_held_at p t = list_any (is_in_interval p) t.ended || is_past_start p t.since

-- the room is held now
abbrev pub is_held_now : Times → Bool
is_held_now t = is_some t.since

-- the intervals have positions, past the first number and up to the covered position; each is apart from the one
-- before; and the room is held until now, if it is, since a position apart from them all
abbrev pub AreApart : ℕ → List Interval → Option ℕ → ℕ → Type 0
AreApart from [] None covered = Unit {0}
AreApart from [] (Some after) covered = (from ≤ after) × (after ≤ covered)
AreApart from (i ∷ is) since covered = (from ≤ i.after) × (i.after < i.last) × (i.last ≤ covered) × AreApart (suc i.last) is since covered

-- the later times are in order too, and the same up to the covered position
pub record ContinuesTimes (low covered : ℕ) (old new : Times) : Type 0 where
  pub apart : AreApart low new.ended new.since covered
  pub same : (p : ℕ) → p ≤ covered → is_held_at p new ≡ is_held_at p old

-- the interval since that position, if it has positions
abbrev pub open_interval : Option ℕ → ℕ → List Interval
open_interval None covered = []
open_interval (Some after) covered = if nat_lt after covered then record { after = after; last = covered } ∷ [] else []

-- all intervals, the last of them up to the covered position
abbrev pub intervals_upto : ℕ → Times → List Interval
intervals_upto covered t = t.ended ++ open_interval t.since covered

-- the interval as a span of the room
abbrev pub span_of : Text → Interval → RoomSpan
span_of room i = record { room = room; first = suc i.after; last = i.last }

-- the spans of the room
abbrev pub spans_of : Text → ℕ → Times → List RoomSpan
spans_of room covered t = map (span_of room) (intervals_upto covered t)
