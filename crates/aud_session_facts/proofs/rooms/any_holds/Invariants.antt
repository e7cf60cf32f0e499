use Rattle.std.proofs.Common.{◌≡◌, drop}
use Rattle.std.specs.List.{list_any}
use Rattle.aud_session_facts.specs.Private.Holding.{holds_room}
use Rattle.aud_session_facts.proofs.rooms.any_holds.Given as goal

-- none of the spans that were gone over is one of the room at the position
abbrev pub invariant-loop-span : goal.invariant-loop-span
invariant-loop-span l = list_any (holds_room l.position l.room) (drop l.span-index l.spans) ≡ list_any (holds_room l.position l.room) l.spans
