-- What a client has, and what it is sent. Positions count from 1.
use Rattle.std.specs.Prelude.{ℕ, ◌+◌, ◌^◌, ◌-◌, ◌==◌, min, List, [], ◌∷◌, length, drop, Bool, false, Option, Some, None, option_map, if◌then◌else◌}
use Rattle.std.specs.Option.{option_map_or}
use Rattle.aud_tap.specs.declared.records.ClientRec.TheVariants.{TextIn, BytesIn}
use Rattle.aud_tap.specs.declared.records.Rec.TheVariants as rec
use Rattle.aud_tap.specs.declared.records.StreamRec.TheVariants.{Ev}
use Rattle.aud_rooms.specs.Rooms.{is_addressed}
use Rattle.aud_sim.specs.declared.entry.Entry.{Entry}
use Rattle.aud_sim.specs.declared.client.Injected.{Injected}
use Rattle.aud_sim.specs.declared.client.Injected.TheVariants.{Nothing, DropNext, DoubleNext, HoldNext, AlterNext, GarbleNext, ShortenNext, Holds}
use Rattle.aud_sim.specs.declared.client.Session.{Session}
use Rattle.aud_sim.specs.declared.client.Client.{Client}
use Rattle.aud_sim.specs.Bundle.{Lines, with_line}
use Rattle.aud_sim.specs.Entries.{entry_at}
use Rattle.aud_sim.specs.Texts.{main_namespace}

-- ---- what is written of a frame

-- the attachments, each as a message of its own
abbrev pub with_attachments : List ℕ → List (List ℕ) → Lines → Lines
with_attachments name [] lines = lines
with_attachments name (bytes ∷ more) lines = with_attachments name more (with_line name (rec.Client (BytesIn bytes)) lines)

-- a frame of this text, and the attachments after it
abbrev pub with_frame : List ℕ → List ℕ → List (List ℕ) → Lines → Lines
with_frame name text attachments lines = with_attachments name attachments (with_line name (rec.Client (TextIn text)) lines)

-- the frame of an entry
abbrev pub with_own_frame : List ℕ → Entry → Lines → Lines
with_own_frame name entry lines = with_frame name entry.frame entry.event.bin lines

-- what is written where an entry is sent, by the fault that its frame meets: its frame, with another word, as no packet,
-- or without the first of its attachments; and the frame that was held
abbrev pub with_sent : List ℕ → List Entry → Injected → Entry → Lines → Lines
with_sent name entries Nothing entry lines = with_own_frame name entry lines
with_sent name entries DropNext entry lines = lines
with_sent name entries DoubleNext entry lines = with_own_frame name entry (with_own_frame name entry lines)
with_sent name entries HoldNext entry lines = lines
with_sent name entries AlterNext entry lines = with_frame name entry.altered entry.event.bin lines
with_sent name entries GarbleNext entry lines = with_frame name entry.garbled entry.event.bin lines
with_sent name entries ShortenNext entry lines = with_frame name entry.frame (drop 1 entry.event.bin) lines
with_sent name entries (Holds position) entry lines =
    let own = with_own_frame name entry lines in option_map_or (λ held. with_own_frame name held own) (entry_at entries position) own

-- ---- what is left of the fault, and the last offset received

-- the fault that a frame of so many attachments meets, of the one that waits: of none of them none is lost
abbrev pub met : Injected → ℕ → Injected
met ShortenNext count = if count == 0 then Nothing else ShortenNext
met fault count = fault

-- the fault after a frame of the entry at a position
abbrev pub fault_after : Injected → ℕ → Injected
fault_after HoldNext position = Holds position
fault_after fault position = Nothing

-- the position of the offset that the client received last, after a frame of the entry at a position
abbrev pub last_after : Injected → ℕ → Option ℕ → Option ℕ
last_after DropNext position last = last
last_after HoldNext position last = last
last_after GarbleNext position last = last
last_after ShortenNext position last = last
last_after (Holds held) position last = Some held
last_after fault position last = Some position

-- a held frame is never written once its connection is over
abbrev pub fault_after_connection : Injected → Injected
fault_after_connection (Holds position) = Nothing
fault_after_connection fault = fault

-- ---- a client that is sent an entry

-- the entry is addressed to the session, if there is one
abbrev pub is_for : Entry → Option Session → Bool
is_for entry None = false
is_for entry (Some session) = is_addressed (Ev entry.event) main_namespace session.rooms

-- the fault that a frame of the entry meets, of the client's
abbrev pub met_by : Entry → Client → Injected
met_by entry client = met client.injected (length entry.event.bin)

-- the session after a frame of the entry at a position, which met this fault
abbrev pub session_sent : Injected → ℕ → Session → Session
session_sent fault position session = record session { last = last_after fault position session.last }

-- the lines where an entry is sent to a client, if it is addressed to its session
abbrev pub lines_sent : List Entry → Entry → Client → Lines → Lines
lines_sent entries entry client lines =
    if is_for entry client.session then with_sent client.name entries (met_by entry client) entry lines else lines

-- the client then
abbrev pub client_sent : ℕ → Entry → Client → Client
client_sent position entry client =
    if is_for entry client.session
    then record client { injected = fault_after (met_by entry client) position; session = option_map (session_sent (met_by entry client) position) client.session }
    else client

-- ---- one more

-- the number of a client's next connection, and of the next session; it stops at the greatest number of 64 bits
abbrev pub next_number : ℕ → ℕ
next_number number = min (number + 1) (2 ^ 64 - 1)

-- the number of a session's next turn; it stops at the greatest
abbrev pub next_turn : ℕ → ℕ
next_turn turn = min (turn + 1) (2 ^ 16 - 1)
