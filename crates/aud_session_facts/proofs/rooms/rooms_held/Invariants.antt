use Rattle.std.proofs.Common.{◌≡◌, filter, map, take}
use Rattle.aud_rooms.specs.Spans.{RoomSpan, is_within}
use Rattle.aud_session_facts.proofs.rooms.rooms_held.Given as goal

-- the rooms of those spans that were gone over
abbrev pub invariant-loop-span : goal.invariant-loop-span
invariant-loop-span l =
    map (λ room. room.now) l.rooms.items ≡ map (λ (s : RoomSpan). s.room) (filter (is_within l.position) (take l.span-index l.span-items))
