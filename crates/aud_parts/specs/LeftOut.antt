-- What is left of a recording once the nodes' records of some sessions are left out, and taps that don't tell of the
-- others.
use Rattle.std.specs.Prelude.{◌≡◌, ◌↔◌, ◌||◌, not, Bool, true, false, List, [], ◌∷◌, map, filter, Option, Some, None}
use Rattle.std.specs.List.{All, list_any}
use Rattle.aud_tap.specs.declared.records.NodeRec.{NodeRec}
use Rattle.aud_tap.specs.declared.records.NodeRec.TheVariants.{Start}
use Rattle.aud_tap.specs.declared.taps.Records.{Records}
use Rattle.aud_tap.specs.declared.taps.Records.TheVariants.{Stream, Node, Client}
use Rattle.aud_tap.specs.declared.taps.Tap.{Tap}
use Rattle.aud_tap.specs.RecordFields.{pid_of}
use Rattle.aud_node.specs.Lists.{is_empty}
use Rattle.aud_node.specs.Stream.{Text}
use Rattle.aud_node.specs.Cluster.{Cluster, node_recs, is_stream}
use Rattle.aud_node.specs.OwnRecords.{record_names}
use Rattle.aud_client.specs.Replies.{tap_names}
use Rattle.aud_verdict.specs.declared.verdict.Verdict.{Verdict}
use Rattle.aud_verdict.specs.Verdict.{IsVerdict}

-- ---- what is left

-- there is no pid, or it is that of a session that is kept
abbrev pub keeps_pid : (Text → Bool) → Option Text → Bool
keeps_pid keeps None = true
keeps_pid keeps (Some pid) = keeps pid

-- the record names no session, or one that is kept
abbrev pub keeps_record : (Text → Bool) → NodeRec → Bool
keeps_record keeps rec = keeps_pid keeps (pid_of rec)

-- a node's records that are kept; all records of another tap
abbrev pub records_left : (NodeRec → Bool) → Records → Records
records_left keep (Stream recs) = Stream recs
records_left keep (Node recs) = Node (filter keep recs)
records_left keep (Client recs) = Client recs

-- the tap with the records that are left
abbrev pub tap_left : (NodeRec → Bool) → Tap → Tap
tap_left keep tap =
    record { name = tap.name; version = tap.version; records = records_left keep tap.records }

-- the cluster without the records of sessions that aren't kept
abbrev pub without_records : (Text → Bool) → Cluster → Cluster
without_records keeps c =
    record { stream = c.stream; taps = map (tap_left (keeps_record keeps)) c.taps }

-- the cluster without the taps that aren't kept
abbrev pub without_taps : (Tap → Bool) → Cluster → Cluster
without_taps keeps c = record { stream = c.stream; taps = filter keeps c.taps }

-- ---- what has to be kept

-- the records tell of the session: one of a node's names it, or a reply in a client's tap does
abbrev pub tell_of : Text → Records → Bool
tell_of pid (Stream recs) = false
tell_of pid (Node recs) = list_any (λ rec. record_names (Some rec) pid) recs
tell_of pid (Client recs) = tap_names pid recs

-- each tap that tells of the session is kept
abbrev pub KeepsTapsOf : (Tap → Bool) → List Tap → Text → Type 0
KeepsTapsOf keeps taps pid =
    All (λ (tap : Tap). tell_of pid tap.records ≡ true → keeps tap ≡ true) taps

-- each tap of a stream is kept
abbrev pub KeepsStreams : (Tap → Bool) → List Tap → Type 0
KeepsStreams keeps taps = All (λ (tap : Tap). is_stream tap.records ≡ true → keeps tap ≡ true) taps

-- the record is a `start`
abbrev pub is_start : NodeRec → Bool
is_start (Start off) = true
is_start _ = false

-- there is a first record, and it is a `start`
abbrev pub begins_with_start : List NodeRec → Bool
begins_with_start [] = false
begins_with_start (rec ∷ recs) = is_start rec

-- no `start` comes to stand first: the first record is kept, or the first of those that are kept is no `start`
abbrev pub keeps_first : (NodeRec → Bool) → List NodeRec → Bool
keeps_first keep [] = true
keeps_first keep (rec ∷ recs) = keep rec || not (begins_with_start (filter keep recs))

-- so in each log that tells of the session
abbrev pub KeepsFirstOf : (NodeRec → Bool) → List Tap → Text → Type 0
KeepsFirstOf keep taps pid =
    All
    (λ (tap : Tap). tell_of pid tap.records ≡ true
    → keeps_first keep (node_recs (Some tap.records)) ≡ true)
    taps

-- the log has no records, or begins with a `start`
abbrev pub is_started : List NodeRec → Bool
is_started log = is_empty log || begins_with_start log

-- so in the log of each node
abbrev pub StartFirst : List Tap → Type 0
StartFirst taps = All (λ (tap : Tap). is_started (node_recs (Some tap.records)) ≡ true) taps

-- ---- what stays

-- the session has the same verdict over both, with and without `--whole`
abbrev pub IsJudgedAlike : Cluster → Cluster → Text → Type 0
IsJudgedAlike c other pid =
    (whole : Bool) (verdict : Verdict)
    → IsVerdict c whole pid verdict ↔ IsVerdict other whole pid verdict
