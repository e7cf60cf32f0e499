-- A part's taps of the stream and of the nodes, as they are made where the clients' taps aren't at hand: of these it is
-- known which entries of the stream came to clients of the part.
use Rattle.std.specs.Prelude.{◌≡◌, ◌&&◌, ◌||◌, not, nat_eq, ℕ, suc, Bool, true, false, List, [], ◌∷◌, map, Some}
use Rattle.std.specs.List.{All, filter, list_any}
use Rattle.aud_tap.specs.declared.records.StreamRec.{StreamRec}
use Rattle.aud_tap.specs.declared.taps.Records.{Records}
use Rattle.aud_tap.specs.declared.taps.Records.TheVariants.{Stream, Node, Client}
use Rattle.aud_tap.specs.declared.taps.Tap.{Tap}
use Rattle.aud_tap.specs.RecordFields.{offset_of}
use Rattle.aud_node.specs.Stream.{Text, entry}
use Rattle.aud_node.specs.Recoverable.{is_recoverable}
use Rattle.aud_node.specs.Cluster.{Cluster, cluster_of, stream_of, entries_or}
use Rattle.aud_upgrade.specs.Upgraded.{with_runs}
use Rattle.aud_parts.specs.MadeOther.{entry_left}
use Rattle.aud_parts.specs.Part.{left_for, is_for_some, came_to_some, part_for}

-- ---- the taps

-- the records are a client's
abbrev pub is_client : Records → Bool
is_client (Stream recs) = false
is_client (Node recs) = false
is_client (Client recs) = true

-- the taps of the stream and of the nodes: all but those of clients
abbrev pub without_clients : List Tap → List Tap
without_clients taps = filter (λ (tap : Tap). not (is_client tap.records)) taps

-- those of them that a part keeps, without the records of other sessions
abbrev pub servers_left : List Text → List Tap → List Tap
servers_left pids taps = (left_for pids (without_clients taps)).taps

-- ---- the entries

-- the entry at this position stays an event: it is recoverable, and is for a session of the part, or came to one of its
-- clients at one of these positions
abbrev pub stays_event : (StreamRec → Bool) → List ℕ → ℕ → StreamRec → Bool
stays_event is_for came position event = is_recoverable event && (is_for event || list_any (nat_eq position) came)

-- the entries, the first of which stands at this position: each that isn't kept is an entry of its offset that is no event
abbrev pub placed_left : (ℕ → StreamRec → Bool) → ℕ → List StreamRec → List StreamRec
placed_left keeps position [] = []
placed_left keeps position (event ∷ events) = entry_left (keeps position) event ∷ placed_left keeps (suc position) events

-- the stream's entries in the part
abbrev pub part_entries : List Text → List ℕ → Cluster → List StreamRec
part_entries pids came c = placed_left (stays_event (is_for_some (servers_left pids c.taps)) came) 1 c.stream

-- ---- the part

-- these entries, if the records are a stream's; else the records
abbrev pub records_with : List StreamRec → Records → Records
records_with entries (Stream recs) = Stream entries
records_with entries (Node recs) = Node recs
records_with entries (Client recs) = Client recs

-- the tap with these entries, if it is a stream's
abbrev pub tap_with : List StreamRec → Tap → Tap
tap_with entries tap = record { name = tap.name; version = tap.version; records = records_with entries tap.records }

-- the taps that the part keeps, with its entries, in version 2 with the takes of the nodes as runs
abbrev pub part_taps : List Text → List ℕ → Cluster → List Tap
part_taps pids came c = with_runs (map (tap_with (part_entries pids came c)) (servers_left pids c.taps))

-- ---- of which recordings it is the part

-- there is one stream at most: each tap of a stream has its entries
abbrev pub HasOneStream : List Tap → Type 0
HasOneStream taps = All (λ (tap : Tap). entries_or (stream_of taps) tap.records ≡ stream_of taps) taps

-- of the recoverable entries those came to a client of the part that stand at these positions
abbrev pub HaveCome : List Text → List Tap → List ℕ → Type 0
HaveCome pids taps came =
    (position : ℕ) (event : StreamRec) → entry (stream_of taps) position ≡ Some event → is_recoverable event ≡ true
    → list_any (nat_eq position) came ≡ came_to_some (left_for pids taps).taps (offset_of event)

-- this is a recording with these taps of the stream and of the nodes, of which those entries came to clients of the part
pub record IsRecording (pids : List Text) (came : List ℕ) (c : Cluster) (whole : List Tap) : Type 0 where
  pub servers : cluster_of (without_clients whole) ≡ c
  pub one_stream : HasOneStream whole
  pub have_come : HaveCome pids whole came

-- these taps are all but the clients' of the part of each such recording
abbrev pub IsPartOfEach : List Text → List ℕ → Cluster → List Tap → Type 0
IsPartOfEach pids came c part = (whole : List Tap) → IsRecording pids came c whole → part ≡ without_clients (part_for pids whole)
