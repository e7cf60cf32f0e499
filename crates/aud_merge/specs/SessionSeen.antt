-- A session that was opened, as the machine sees it.
use Rattle.std.specs.Prelude.{ℕ, Option, Some, None}
use Rattle.aud_node.specs.Stream.{Text}
use Rattle.aud_rooms.specs.Rooms.{Rooms}
use Rattle.aud_merge.specs.Sessions as seen
use Rattle.aud_merge.specs.declared.session.At.{At}
use Rattle.aud_merge.specs.declared.session.At.TheVariants.{Node, Away, Ended}
use Rattle.aud_merge.specs.declared.session.OpenedSession.{OpenedSession}

-- where it is, and what it keeps
abbrev pub seen_at : At → ℕ → Text → Text → Rooms → seen.SessionState
seen_at (Node place) turn sid nsp rooms = seen.Here place turn sid nsp rooms
seen_at Away turn sid nsp rooms = seen.Away turn sid nsp rooms
seen_at Ended turn sid nsp rooms = seen.Ended

-- the session, as the machine has it
abbrev pub session_seen : OpenedSession → seen.SessionState
session_seen s = seen_at s.at s.turn s.sid.now s.nsp.now s.rooms

-- the same; no session is one that was never opened
abbrev pub seen_or_absent : Option OpenedSession → seen.SessionState
seen_or_absent None = seen.Absent
seen_or_absent (Some session) = session_seen session
