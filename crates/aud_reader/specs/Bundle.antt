-- The taps of the lines, as section "Taps" of docs/FORMAT.md has them. Each line is judged by the taps of the lines
-- before it.
use Rattle.std.specs.Prelude.{ℕ, nat_lt, nat_le, List, [], ◌∷◌, ◌++◌, length, map, find, count_by, codes, Bool, true, false, not, Option, Some, None, option_to_list, Result, Ok, Err, if◌then◌else◌}
use Rattle.std.specs.List.{filter_map, flat_map, list_any}
use Rattle.std.specs.Set.{distinct_count}
use Rattle.serde_json.specs.Data.{Data}
use Rattle.aud_reader.specs.declared.fault.InputCode.{InputCode}
use Rattle.aud_reader.specs.declared.fault.InputCode.TheVariants.{NoHeader, UnknownKind, HeaderTwice, SecondStream, OffsetTwice, Field, Limit}
use Rattle.aud_reader.specs.declared.fault.ReadFault.{ReadFault}
use Rattle.aud_reader.specs.declared.fault.ReadFault.TheVariants.{Input}
use Rattle.aud_reader.specs.declared.line.Line.{Line}
use Rattle.aud_tap.specs.declared.records.TapKind.{TapKind}
use Rattle.aud_tap.specs.declared.records.TapKind.TheVariants as kind
use Rattle.aud_tap.specs.declared.records.Version.{Version}
use Rattle.aud_tap.specs.declared.records.StreamRec.{StreamRec}
use Rattle.aud_tap.specs.declared.records.NodeRec.{NodeRec}
use Rattle.aud_tap.specs.declared.records.ClientRec.{ClientRec}
use Rattle.aud_tap.specs.declared.taps.Records.{Records}
use Rattle.aud_tap.specs.declared.taps.Records.TheVariants.{Stream, Node, Client}
use Rattle.aud_tap.specs.declared.taps.Tap.{Tap}
use Rattle.aud_base.specs.Steps.{◌>>=◌, guard}
use Rattle.aud_tap.specs.Forms.{is_text}
use Rattle.aud_tap.specs.RecordFields.{offset_of, pid_of}
use Rattle.aud_reader.specs.Header.{header_of}
use Rattle.aud_reader.specs.StreamRecord.{stream_record_of}
use Rattle.aud_reader.specs.NodeRecord.{is_in_version, node_record_of}
use Rattle.aud_reader.specs.ClientRecord.{client_record_of}
use Rattle.aud_reader.specs.Connections.{may_follow}
use Rattle.aud_reader.specs.Record.{opened_line, kind_named}

-- ---- the limits of a bundle

-- entries of the stream
abbrev pub max_entries : ℕ
max_entries = 1000000

-- records of a node tap or a client tap
abbrev pub max_records : ℕ
max_records = 4000000

-- different pids in the node records
abbrev pub max_pids : ℕ
max_pids = 65536

abbrev pub max_node_taps : ℕ
max_node_taps = 64

abbrev pub max_client_taps : ℕ
max_client_taps = 4096

-- ---- one more record of a tap

-- so many entries, with these offsets, have room for another, whose offset is new
abbrev pub entry_room : ℕ → List (List ℕ) → StreamRec → Result (Unit {0}) InputCode
entry_room count offsets entry = guard Limit (nat_lt count max_entries) >>= (λ room. guard OffsetTwice (not (list_any (is_text (offset_of entry)) offsets)))

-- the entries with another, if there is room for it
abbrev pub with_new_entry : List StreamRec → StreamRec → Result (List StreamRec) InputCode
with_new_entry entries entry = entry_room (length entries) (map offset_of entries) entry >>= (λ room. Ok (entries ++ entry ∷ []))

-- the stream's entries with that of a line
unfoldable pub with_entry : List StreamRec → List ℕ → Data → Result (List StreamRec) InputCode
with_entry entries kind d = do
  entry ← stream_record_of kind d
  with_new_entry entries entry

-- there are no more different pids than may be
abbrev pub pids_fit : List (List ℕ) → Result (Unit {0}) InputCode
pids_fit pids = guard Limit (nat_le (distinct_count is_text pids) max_pids)

-- a tap of so many records has room for another, and these pids are not too many
abbrev pub node_room : ℕ → List (List ℕ) → Result (Unit {0}) InputCode
node_room count pids = guard Limit (nat_lt count max_records) >>= (λ room. pids_fit pids)

-- a node's records, in a tap of this version, with that of a line, beside the pids of all node records
unfoldable pub with_node_record : Version → List (List ℕ) → List NodeRec → List ℕ → Data → Result (List NodeRec) InputCode
with_node_record version pids records kind d = do
  known ← guard UnknownKind (is_in_version version kind)
  rec ← node_record_of kind d
  room ← node_room (length records) (pids ++ option_to_list (pid_of rec))
  Ok (records ++ rec ∷ [])

-- a record may follow a client's others, and there is room for it
abbrev pub client_room : List ClientRec → ClientRec → Result (Unit {0}) InputCode
client_room records rec = guard Field (may_follow records rec) >>= (λ follows. guard Limit (nat_lt (length records) max_records))

-- a client's records with that of a line
unfoldable pub with_client_record : List ClientRec → List ℕ → Data → Result (List ClientRec) InputCode
with_client_record records kind d = do
  rec ← client_record_of kind d
  room ← client_room records rec
  Ok (records ++ rec ∷ [])

-- the records of a tap of this version with that of a line
abbrev pub with_tap_record : Version → List (List ℕ) → Records → List ℕ → Data → Result Records InputCode
with_tap_record version pids (Stream entries) kind d = with_entry entries kind d >>= (λ more. Ok (Stream more))
with_tap_record version pids (Node records) kind d = with_node_record version pids records kind d >>= (λ more. Ok (Node more))
with_tap_record version pids (Client records) kind d = with_client_record records kind d >>= (λ more. Ok (Client more))

-- ---- taps

-- the tap of this name
abbrev pub tap_named : List ℕ → List Tap → Option Tap
tap_named name taps = find (λ t. is_text name t.name) taps

-- these records for the tap of this name
abbrev pub with_records : List ℕ → Records → List Tap → List Tap
with_records name records [] = []
with_records name records (t ∷ ts) = if is_text name t.name then record t { records = records } ∷ ts else t ∷ with_records name records ts

-- what a tap was put on
abbrev pub kind_of_tap : Records → TapKind
kind_of_tap (Stream entries) = kind.Stream
kind_of_tap (Node records) = kind.Node
kind_of_tap (Client records) = kind.Client

abbrev pub same_kind : TapKind → TapKind → Bool
same_kind kind.Stream kind.Stream = true
same_kind kind.Node kind.Node = true
same_kind kind.Client kind.Client = true
same_kind a b = false

-- how many taps were put on this
abbrev pub taps_on : TapKind → List Tap → ℕ
taps_on of taps = count_by (λ t. same_kind of (kind_of_tap t.records)) taps

-- the pids of all node records, each as often as it stands
abbrev pub pids_in : Records → List (List ℕ)
pids_in (Stream entries) = []
pids_in (Node records) = filter_map pid_of records
pids_in (Client records) = []

abbrev pub pids_of : List Tap → List (List ℕ)
pids_of taps = flat_map (λ t. pids_in t.records) taps

-- ---- one more line

-- there is room for another tap of this kind
abbrev pub another_tap : TapKind → List Tap → Result (Unit {0}) InputCode
another_tap kind.Stream taps = guard SecondStream (nat_lt (taps_on kind.Stream taps) 1)
another_tap kind.Node taps = guard Limit (nat_lt (taps_on kind.Node taps) max_node_taps)
another_tap kind.Client taps = guard Limit (nat_lt (taps_on kind.Client taps) max_client_taps)

-- a tap's records after its header
abbrev pub no_records : TapKind → Records
no_records kind.Stream = Stream []
no_records kind.Node = Node []
no_records kind.Client = Client []

-- the first line of a tap is its header
unfoldable pub with_header : List Tap → List ℕ → List ℕ → Data → Result (List Tap) InputCode
with_header taps name kind d = do
  header ← guard NoHeader (is_text kind (codes "tap"))
  tap ← header_of d
  room ← another_tap tap.0 taps
  Ok (taps ++ record { name = name; version = tap.1; records = no_records tap.0 } ∷ [])

-- a later line of a tap is a record, of a kind that the tap's version has
unfoldable pub with_later : List Tap → List ℕ → Tap → List ℕ → Data → Result (List Tap) InputCode
with_later taps name t kind d = do
  later ← guard HeaderTwice (not (is_text kind (codes "tap")))
  more ← with_tap_record t.version (pids_of taps) t.records kind d
  Ok (with_records name more taps)

-- the first line of a tap, or a later one
abbrev pub with_kind : List Tap → List ℕ → Option Tap → List ℕ → Data → Result (List Tap) InputCode
with_kind taps name None kind d = with_header taps name kind d
with_kind taps name (Some t) kind d = with_later taps name t kind d

abbrev pub with_named : List Tap → List ℕ → List ℕ → Data → Result (List Tap) InputCode
with_named taps name kind d = with_kind taps name (tap_named name taps) kind d

-- the taps with what the value of a line brings to the tap of this name
abbrev pub with_value : List Tap → List ℕ → Data → Result (List Tap) InputCode
with_value taps name d = kind_named d >>= (λ kind. with_named taps name kind d)

-- the taps with what a line brings
unfoldable pub with_line : List Tap → List ℕ → Result (List Tap) InputCode
with_line taps line = do
  parts ← opened_line line
  with_value taps parts.0 parts.1

-- ---- the lines

-- the refusal of a line by its number
abbrev pub at_line : {A : Type 0} → ℕ → Result A InputCode → Result A ReadFault
at_line n (Ok x) = Ok x
at_line n (Err code) = Err (Input n code)

-- a line without bytes is passed over
abbrev pub passing_empty : List Tap → ℕ → List ℕ → Result (List Tap) ReadFault
passing_empty taps n [] = Ok taps
passing_empty taps n (b ∷ line) = at_line n (with_line taps (b ∷ line))

abbrev pub taps_after : List Tap → Line → Result (List Tap) ReadFault
taps_after taps line = passing_empty taps line.number line.bytes

-- the taps after these and more lines; the first refusal stands
abbrev pub taps_from : List Tap → List Line → Result (List Tap) ReadFault
taps_from taps [] = Ok taps
taps_from taps (line ∷ lines) = taps_after taps line >>= (λ more. taps_from more lines)

-- the taps of the lines, or the first refused line
abbrev pub taps_of : List Line → Result (List Tap) ReadFault
taps_of lines = taps_from [] lines

-- a reader: the taps so far, and the refusal
pub record Reading : Type 0 where
  pub taps : List Tap
  pub fault : Option ReadFault

-- a refusal stands for all that comes after it
abbrev pub unless_refused : {A : Type 0} → Option ReadFault → Result A ReadFault → Result A ReadFault
unless_refused None r = r
unless_refused (Some f) r = Err f

-- what a reader gives in the end, where these are the lines to come
abbrev pub taps_to_come : Reading → List Line → Result (List Tap) ReadFault
taps_to_come s lines = unless_refused s.fault (taps_from s.taps lines)
