-- A part of a recording: what is kept of it for some of its sessions. It is a recording itself, and tells the same of them.
use Rattle.std.specs.Prelude.{◌≡◌, ◌&&◌, ◌||◌, Bool, true, false, List, Some}
use Rattle.std.specs.List.{All, list_any}
use Rattle.std.specs.Str.{bytes_eq}
use Rattle.aud_tap.specs.declared.records.StreamRec.{StreamRec}
use Rattle.aud_tap.specs.declared.records.StreamRec.TheVariants.{Ev, Other}
use Rattle.aud_tap.specs.declared.records.NodeRec.{NodeRec}
use Rattle.aud_tap.specs.declared.records.NodeRec.TheVariants.{Opened, Join}
use Rattle.aud_tap.specs.declared.taps.Tap.{Tap}
use Rattle.aud_tap.specs.RecordFields.{offset_of}
use Rattle.aud_node.specs.Lists.{is_empty}
use Rattle.aud_node.specs.Stream.{Text}
use Rattle.aud_node.specs.Recoverable.{is_recoverable}
use Rattle.aud_node.specs.Cluster.{Cluster, cluster_of, is_stream, node_recs}
use Rattle.aud_node.specs.NodeTaps.{client_recs}
use Rattle.aud_client.specs.Replies.{is_naming}
use Rattle.aud_upgrade.specs.Upgraded.{with_runs}
use Rattle.aud_parts.specs.LeftOut.{tell_of, without_records, without_taps, keeps_record, keeps_first}
use Rattle.aud_parts.specs.MadeOther.{any_record, tell_event, with_others}

-- ---- the sessions of a part

-- the session is one of these
abbrev pub is_among : List Text → Text → Bool
is_among pids pid = list_any (λ own. bytes_eq own pid) pids

-- the tap is kept: the stream's, and each other that tells of one of the sessions
abbrev pub is_kept_tap : List Text → Tap → Bool
is_kept_tap pids tap = is_stream tap.records || list_any (λ pid. tell_of pid tap.records) pids

-- the taps that are kept, without the records of other sessions
abbrev pub left_for : List Text → List Tap → Cluster
left_for pids taps =
    without_records (is_among pids) (without_taps (is_kept_tap pids) (cluster_of taps))

-- ---- the entries of a part

-- the record opens a session in the namespace
abbrev pub opens_nsp : Text → NodeRec → Bool
opens_nsp nsp (Opened pid sid its) = bytes_eq its nsp
opens_nsp nsp _ = false

-- from the record on a session holds the room
abbrev pub grants : Text → NodeRec → Bool
grants room (Opened pid sid nsp) = bytes_eq sid room
grants room (Join pid joined) = bytes_eq joined room
grants room _ = false

-- the entry is for a namespace in which a session is opened, and for no room or one that a session ever holds
abbrev pub is_for_some : List Tap → StreamRec → Bool
is_for_some taps (Ev event) =
    any_record (opens_nsp event.nsp) taps
    && (is_empty event.rooms || list_any (λ room. any_record (grants room) taps) event.rooms)
is_for_some taps (Other off) = false

-- an event that ends in the offset came to a client
abbrev pub came_to_some : List Tap → Text → Bool
came_to_some taps off = list_any (λ (tap : Tap). tell_event off tap.records) taps

-- the entry stays an event: it is recoverable, and may be for a session of these taps or came to a client of them
abbrev pub is_kept_entry : List Tap → StreamRec → Bool
is_kept_entry taps entry =
    is_recoverable entry && (is_for_some taps entry || came_to_some taps (offset_of entry))

-- ---- the part

-- the taps that are left, all other entries `other`, in version 2 with the takes of the nodes as runs
abbrev pub part_for : List Text → List Tap → List Tap
part_for pids taps =
    with_runs (with_others (is_kept_entry (left_for pids taps).taps) (left_for pids taps)).taps

-- ---- which sessions make a part

-- a reply in the tap, if it is a client's, names the session
abbrev pub names_session : Tap → Text → Bool
names_session tap pid = is_naming pid (client_recs tap)

-- each session that a client's tap names beside one of the sessions is one of them
abbrev pub KeepsClients : List Text → List Tap → Type 0
KeepsClients pids taps =
    All
    (λ (tap : Tap). (one other : Text) → is_among pids one ≡ true
    → names_session tap one ≡ true → names_session tap other ≡ true
    → is_among pids other ≡ true)
    taps

-- in no log that tells of one of the sessions does a `start` come to stand first
abbrev pub KeepsFirsts : List Text → List Tap → Type 0
KeepsFirsts pids taps =
    All
    (λ (tap : Tap). (pid : Text) → is_among pids pid ≡ true → tell_of pid tap.records ≡ true
    → keeps_first (keeps_record (is_among pids)) (node_recs (Some tap.records)) ≡ true)
    taps
