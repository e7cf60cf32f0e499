-- What a client missed where its recovery was refused.
use Rattle.std.specs.Prelude.{◌≡◌, ℕ, Bool, not, List, [], ◌∷◌, length, map, Option, Some, None, unwrap_or, nat_lt, nat_le, ◌&&◌, ◌⊎◌}
use Rattle.std.specs.List.{filter}
use Rattle.std.specs.Option.{option_or}
use Rattle.aud_tap.specs.declared.records.StreamRec.{StreamRec}
use Rattle.aud_node.specs.Cluster.{Cluster}
use Rattle.aud_node.specs.Stream.{Text, entry, positions_after}
use Rattle.aud_client.specs.StaySeen.{StaySeen, FrameSeen}
use Rattle.aud_client.specs.Received.{frames_by_stay}
use Rattle.aud_rooms.specs.Rooms.{Rooms, own_room, is_for}
use Rattle.aud_rooms.specs.Spans.{first_low}
use Rattle.aud_rooms.specs.Turns.{Who, Turn, Slice, slice_of, IsChain}
use Rattle.aud_rooms.specs.TurnsDue.{rooms_at_end}
use Rattle.aud_cert.specs.declared.fault.Fault.{Fault}
use Rattle.aud_check.specs.Difference.{has_position}
use Rattle.aud_check.specs.Window.{positions_received}
use Rattle.aud_maker.specs.Faults.{HasMakeFault}
use Rattle.aud_session_facts.specs.Recoveries.{stays_at}
use Rattle.aud_session_facts.specs.Opening.{opening_cursor}

-- ---- the last event received

-- the position of the last of the frames
abbrev pub last_position : List FrameSeen → Option ℕ
last_position [] = None
last_position (frame ∷ frames) = option_or (last_position frames) (Some frame.position)

-- the position of the last event in those of the stays that name the session
abbrev pub last_received : Text → List StaySeen → Option ℕ
last_received pid stays = last_position (frames_by_stay pid stays)

-- ---- the rooms at the break

-- the rooms after all records of the slices
abbrev pub rooms_after_all : Text → Rooms → List Slice → Rooms
rooms_after_all pid held [] = held
rooms_after_all pid held (slice ∷ later) = rooms_after_all pid (rooms_at_end pid held slice.recs) later

-- the rooms that the session held at the end of its turns, with which its last break left it
abbrev pub rooms_at_break : Cluster → Who → List Turn → Rooms
rooms_at_break c who turns = rooms_after_all who.pid (own_room who.sid) (map (slice_of c) turns)

-- ---- what was missed

-- the position is past the first one and not past the cursor, and its entry recoverable and addressed to the rooms
abbrev pub is_missed : List StreamRec → Text → Rooms → ℕ → ℕ → ℕ → Bool
is_missed stream nsp held after cursor p = nat_lt after p && (nat_le p cursor && is_for (entry stream p) nsp held)

-- the positions that are, ascending
abbrev pub missed_between : List StreamRec → Text → Rooms → ℕ → ℕ → List ℕ
missed_between stream nsp held after cursor = filter (is_missed stream nsp held after cursor) (positions_after 0 (length stream))

-- what was missed of the session with this pid, after this position, or else after its birth, up to the cursor: by the
-- rooms at the break of its turns
pub record IsMissedFrom (c : Cluster) (pid : Text) (last : Option ℕ) (cursor : ℕ) (missed : List ℕ) : Type 0 where
  pub who : Who
  pub turns : List Turn
  pub names : who.pid ≡ pid
  pub chain : IsChain c who turns
  pub is : missed ≡ missed_between c.stream who.nsp (rooms_at_break c who turns) (unwrap_or last (first_low (map (slice_of c) turns))) cursor

-- the positions of all events that came to the client of the tap at this place, in whichever session
abbrev pub came_at : Cluster → ℕ → List ℕ
came_at c client = positions_received (stays_at c client)

-- of these positions those at which nothing came
abbrev pub not_among : List ℕ → List ℕ → List ℕ
not_among came positions = filter (λ p. not (has_position came p)) positions

-- what the client at the place missed where it asked for one session and got another: of what was missed of the first,
-- what came to the client in no session
pub record IsMissed (c : Cluster) (client : ℕ) (asked got : Text) (missed : List ℕ) : Type 0 where
  pub cursor : ℕ
  pub opened : opening_cursor c got ≡ Some cursor
  pub of_session : List ℕ
  pub is_of_session : IsMissedFrom c asked (last_received asked (stays_at c client)) cursor of_session
  pub is_missed : missed ≡ not_among (came_at c client) of_session

-- the logs don't tell what was missed: no node opened the session that the client got, or the one that it asked for
-- has a fault for which it has no certificate
abbrev pub IsUntold : Cluster → Text → Text → Type 0
IsUntold c asked got = (opening_cursor c got ≡ None) ⊎ ((fault : Fault) × HasMakeFault c asked fault)
