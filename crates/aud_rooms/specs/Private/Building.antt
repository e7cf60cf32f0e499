-- When each room is held, as the builder of spans keeps it.
use Rattle.std.specs.Prelude.{◌≡◌, ◌≤◌, ◌-◌, ℕ, List, map, Some}
use Rattle.std.specs.List.{flat_map}
use denote.Ref.{Bor}
use Rattle.aud_node.specs.Stream.{Text, positions_after}
use Rattle.aud_rooms.specs.Assigned.{Assigned}
use Rattle.aud_rooms.specs.Spans.{RoomSpan}
use Rattle.aud_rooms.specs.Private.Times.{Times, AreApart, is_held_at, is_held_now, spans_of}
use Rattle.aud_rooms.specs.Private.RoomMap.{RoomMap, at_room, rooms_with}

-- the rooms of the positions past low up to the covered one, and the rooms held now
abbrev pub assigned_of : ℕ → ℕ → RoomMap Times → Assigned
assigned_of low covered es =
    record {
      low = low;
      sets = map (λ p. rooms_with (is_held_at p) es) (positions_after low (covered - low));
      held = rooms_with is_held_now es;
    }

-- the times of all rooms are in order, past low and up to the covered position
pub record AreKept (low covered : ℕ) (es : RoomMap Times) : Type 0 where
  pub above : low ≤ covered
  pub apart : (room : Text) (t : Times) → at_room es room ≡ Some t → AreApart low t.ended t.since covered

-- the spans of all rooms
abbrev pub spans_upto : ℕ → RoomMap Times → List RoomSpan
spans_upto covered es = flat_map (λ (e : (Bor Text) × Times). spans_of e.0.now covered e.1) es
