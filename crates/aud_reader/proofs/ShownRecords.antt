-- A record, and what a line brings to the taps, is read from a value as it is shown.
use Rattle.std.proofs.Common.{◌≡◌, ℕ, List, Option, Some, None, option_map, option_and_then, Result, Ok, Err, if◌then◌else◌, codes, string_bytes, refl, sym, ap, ◌∙◌}
use Rattle.std.specs.Prelude.{MatchResult}
use Rattle.std.specs.declared.string.String.{String}
use Rattle.serde_json.specs.Data.{Data, Items, no_items, item}
use Rattle.serde_json.specs.Find.{get, as_str, as_number, as_u64, as_array}
use Rattle.aud_base.specs.Steps.{◌>>=◌, need}
use Rattle.aud_json.specs.Shown.{shown_item, shown_items, shown_field, shown}
use Rattle.aud_json.proofs.Shown.{get-shown, at-shown, as_str-shown_field, as_str-shown_item, as_null-shown_field, as_number-shown_field, as_array-shown_field}
use Rattle.aud_tap.specs.declared.records.TapKind.{TapKind}
use Rattle.aud_tap.specs.declared.records.TapKind.TheVariants as tap
use Rattle.aud_tap.specs.declared.records.Version.{Version}
use Rattle.aud_tap.specs.declared.records.Rec.{Rec}
use Rattle.aud_tap.specs.declared.records.Rec.TheVariants.{Header}
use Rattle.aud_tap.specs.declared.taps.Tap.{Tap}
use Rattle.aud_tap.specs.declared.taps.Records.{Records}
use Rattle.aud_tap.specs.declared.taps.Records.TheVariants as records
use Rattle.aud_tap.specs.Forms.{passing, is_text, is_id, is_namespace}
use Rattle.aud_tap.specs.Json.{text_at}
use Rattle.aud_tap.specs.Limits.{max_id, max_offset}
use Rattle.aud_reader.specs.declared.fault.InputCode.{InputCode}
use Rattle.aud_reader.specs.declared.fault.InputCode.TheVariants.{UnknownKind}
use Rattle.aud_reader.specs.declared.fault.LineFault.{LineFault}
use Rattle.aud_reader.specs.declared.fault.LineFault.TheVariants as fault
use Rattle.aud_reader.specs.declared.bundle.own_records.OwnRecord.{OwnRecord}
use Rattle.aud_reader.specs.Steps.{Fails}
use Rattle.aud_reader.specs.Fields.{number_at, id_at, bounded_id_at, namespace_at, id_or_null, id_or_null_at, decoded, as_blob, bytes_at, all_items, list_or_empty, texts_at, blobs_at}
use Rattle.aud_reader.specs.Header.{header_of}
use Rattle.aud_reader.specs.StreamRecord.{lists_of, event_of, stream_record_of}
use Rattle.aud_reader.specs.NodeRecord.{start_of, open_of, member_of, pid_and_turn, node_record_of}
use Rattle.aud_reader.specs.ClientRecord.{client_record_of}
use Rattle.aud_reader.specs.Record.{opened_line, kind_named, tap_of_kind, record_in, record_of, value_record, line_record}
use Rattle.aud_reader.specs.Private.OwnRecords.{IsOwnOf, with_name}
use Rattle.aud_reader.specs.Bundle.{with_entry, with_node_record, with_client_record, with_tap_record, pids_of, tap_named, with_header, with_later, with_kind, with_named, with_value, with_line}

-- a step that is followed by the same
same_after : {A B : Type 0} (r : Result A InputCode) (f g : A → Result B InputCode) → ((a : A) → f a ≡ g a) → r >>= f ≡ r >>= g
same_after (Ok a) f g same = same a
same_after (Err e) f g same = refl

-- ---- fields

-- a text
text_at-shown : (key : List ℕ) (d : Data) → text_at key (shown d) ≡ text_at key d
text_at-shown key d = at-shown as_str as_str-shown_field key d

-- a whole number
number_at-shown : (key : List ℕ) (d : Data) → number_at key (shown d) ≡ number_at key d
number_at-shown key d = ap (option_and_then as_u64) (at-shown as_number as_number-shown_field key d)

-- a pid, a sid or an offset
id_at-shown : (key : List ℕ) (d : Data) → id_at key (shown d) ≡ id_at key d
id_at-shown key d = ap (option_and_then (passing is_id)) (text_at-shown key d)

-- one of at most so many bytes
bounded_id_at-shown : (most : ℕ) (key : List ℕ) (d : Data) → bounded_id_at most key (shown d) ≡ bounded_id_at most key d
unfolding bounded_id_at
bounded_id_at-shown most key d = rw (id_at-shown key d)

-- a namespace
namespace_at-shown : (key : List ℕ) (d : Data) → namespace_at key (shown d) ≡ namespace_at key d
namespace_at-shown key d = ap (option_and_then (passing is_namespace)) (text_at-shown key d)

-- an id or null, as a member is shown
id_or_null-shown_field : (d : Data) → id_or_null (shown_field d) ≡ id_or_null d
id_or_null-shown_field d = rw (as_null-shown_field d, as_str-shown_field d)

-- an id or null
id_or_null_at-shown : (key : List ℕ) (d : Data) → id_or_null_at key (shown d) ≡ id_or_null_at key d
id_or_null_at-shown key d = at-shown id_or_null id_or_null-shown_field key d

-- bytes, as a member is shown
as_blob-shown_field : (d : Data) → as_blob (shown_field d) ≡ as_blob d
as_blob-shown_field d = ap (option_and_then decoded) (as_str-shown_field d)

-- bytes, as an item is shown
as_blob-shown_item : (d : Data) → as_blob (shown_item d) ≡ as_blob d
as_blob-shown_item d = ap (option_and_then decoded) (as_str-shown_item d)

-- bytes
bytes_at-shown : (key : List ℕ) (d : Data) → bytes_at key (shown d) ≡ bytes_at key d
bytes_at-shown key d = at-shown as_blob as_blob-shown_field key d

module _ {A : Type 0} (f : Data → Option A) (same : (d : Data) → f (shown_item d) ≡ f d) where
  -- items that are each the same as they are shown
  all_items-shown : (ds : Items) → all_items f (shown_items ds) ≡ all_items f ds
  all_items-shown no_items = refl
  all_items-shown (item d ds) = rw (same d, all_items-shown ds)

  -- the items of a list, if it is one
  items-shown : (o : Option Items) → option_and_then (all_items f) (option_map shown_items o) ≡ option_and_then (all_items f) o
  items-shown None = refl
  items-shown (Some ds) = all_items-shown ds

  -- a list that may be absent
  list-shown : (o : Option Data) → list_or_empty f (option_map shown_field o) ≡ list_or_empty f o
  list-shown None = refl
  list-shown (Some d) = ap (option_and_then (all_items f)) (as_array-shown_field d) ∙ items-shown (as_array d)

-- a list of texts
texts_at-shown : (key : List ℕ) (d : Data) → texts_at key (shown d) ≡ texts_at key d
texts_at-shown key d = ap (list_or_empty as_str) (get-shown key d) ∙ list-shown as_str as_str-shown_item (get key d)

-- a list of texts in base64
blobs_at-shown : (key : List ℕ) (d : Data) → blobs_at key (shown d) ≡ blobs_at key d
blobs_at-shown key d = ap (list_or_empty as_blob) (get-shown key d) ∙ list-shown as_blob as_blob-shown_item (get key d)

-- ---- records

-- what an object says that it is
pub kind_named-shown : (d : Data) → kind_named (shown d) ≡ kind_named d
kind_named-shown d = rw (text_at-shown (codes "k") d)

-- a header
header_of-shown : (d : Data) → header_of (shown d) ≡ header_of d
unfolding header_of
header_of-shown d = rw (number_at-shown (codes "v") d, text_at-shown (codes "of") d)

-- the lists of an event
lists_of-shown : (d : Data) → lists_of (shown d) ≡ lists_of d
unfolding lists_of
lists_of-shown d = rw (texts_at-shown (codes "rooms") d, texts_at-shown (codes "except") d, blobs_at-shown (codes "bin") d)

-- an event
event_of-shown : (d : Data) → event_of (shown d) ≡ event_of d
unfolding event_of
event_of-shown d = rw (id_at-shown (codes "off") d, namespace_at-shown (codes "nsp") d, text_at-shown (codes "text") d, lists_of-shown d)

-- a record of a stream
stream_record_of-shown : (kind : List ℕ) (d : Data) → stream_record_of kind (shown d) ≡ stream_record_of kind d
unfolding stream_record_of
stream_record_of-shown kind d = rw (event_of-shown d, bounded_id_at-shown max_offset (codes "off") d)

-- the node begins
start_of-shown : (d : Data) → start_of (shown d) ≡ start_of d
unfolding start_of
start_of-shown d = rw (id_or_null_at-shown (codes "off") d)

-- a session opens
open_of-shown : (d : Data) → open_of (shown d) ≡ open_of d
unfolding open_of
open_of-shown d = rw (id_at-shown (codes "pid") d, id_at-shown (codes "sid") d, namespace_at-shown (codes "nsp") d)

-- a pid and a room
member_of-shown : (d : Data) → member_of (shown d) ≡ member_of d
unfolding member_of
member_of-shown d = rw (id_at-shown (codes "pid") d, text_at-shown (codes "room") d)

-- a pid and the number of a turn
pid_and_turn-shown : (d : Data) → pid_and_turn (shown d) ≡ pid_and_turn d
unfolding pid_and_turn
pid_and_turn-shown d = rw (id_at-shown (codes "pid") d, number_at-shown (codes "turn") d)

-- a record of a node
node_record_of-shown : (kind : List ℕ) (d : Data) → node_record_of kind (shown d) ≡ node_record_of kind d
unfolding node_record_of
node_record_of-shown kind d =
    rw (start_of-shown d, bounded_id_at-shown max_offset (codes "off") d, open_of-shown d, member_of-shown d, pid_and_turn-shown d, bounded_id_at-shown max_id (codes "pid") d)

-- a record of a client
client_record_of-shown : (kind : List ℕ) (d : Data) → client_record_of kind (shown d) ≡ client_record_of kind d
unfolding client_record_of
client_record_of-shown kind d = rw (number_at-shown (codes "c") d, text_at-shown (codes "t") d, bytes_at-shown (codes "b") d)

-- a record of any tap
record_in-shown : (of : TapKind) (kind : List ℕ) (d : Data) → record_in of kind (shown d) ≡ record_in of kind d
unfolding record_in
record_in-shown tap.Stream kind d = rw (stream_record_of-shown kind d)
record_in-shown tap.Node kind d = rw (node_record_of-shown kind d)
record_in-shown tap.Client kind d = rw (client_record_of-shown kind d)

-- a header, or a record
record_of-shown : (kind : List ℕ) (d : Data) → record_of kind (shown d) ≡ record_of kind d
unfolding record_of
record_of-shown kind d =
    rw (header_of-shown d)
    (ap (λ r. if is_text kind (codes "tap") then header_of d >>= (λ header. Ok (Header header.0 header.1)) else r)
    (same_after (need UnknownKind (tap_of_kind kind)) (λ of. record_in of kind (shown d)) (λ of. record_in of kind d) (λ of. record_in-shown of kind d)))

-- the record of a value
pub value_record-shown : (d : Data) → value_record (shown d) ≡ value_record d
unfolding value_record
value_record-shown d =
    ap (λ r. r >>= (λ kind. record_of kind (shown d))) (kind_named-shown d)
    ∙ same_after (kind_named d) (λ kind. record_of kind (shown d)) (λ kind. record_of kind d) (λ kind. record_of-shown kind d)

-- ---- taps

-- the records of a tap with that of a line
with_tap_record-shown : (version : Version) (pids : List (List ℕ)) (rs : Records) (kind : List ℕ) (d : Data) → with_tap_record version pids rs kind (shown d) ≡ with_tap_record version pids rs kind d
unfolding with_entry with_node_record with_client_record
with_tap_record-shown version pids (records.Stream entries) kind d = rw (stream_record_of-shown kind d)
with_tap_record-shown version pids (records.Node rs) kind d = rw (node_record_of-shown kind d)
with_tap_record-shown version pids (records.Client rs) kind d = rw (client_record_of-shown kind d)

-- the first line of a tap, or a later one
with_kind-shown : (ts : List Tap) (name : List ℕ) (o : Option Tap) (kind : List ℕ) (d : Data) → with_kind ts name o kind (shown d) ≡ with_kind ts name o kind d
unfolding with_header with_later
with_kind-shown ts name None kind d = rw (header_of-shown d)
with_kind-shown ts name (Some t) kind d = rw (with_tap_record-shown t.version (pids_of ts) t.records kind d)

-- the taps with what a value brings
with_value-shown : (ts : List Tap) (name : List ℕ) (d : Data) → with_value ts name (shown d) ≡ with_value ts name d
with_value-shown ts name d =
    ap (λ r. r >>= (λ kind. with_named ts name kind (shown d))) (kind_named-shown d)
    ∙ same_after (kind_named d) (λ kind. with_named ts name kind (shown d)) (λ kind. with_named ts name kind d) (λ kind. with_kind-shown ts name (tap_named name ts) kind d)

-- ---- lines, by the value as it is shown

module _ (text name : List ℕ) (d v : Data) (opened : opened_line text ≡ Ok (name, d)) (is : shown d ≡ v) where
  -- what the line brings to the taps is what the value brings
  pub line-brings : (ts : List Tap) → with_line ts text ≡ with_value ts name v
  unfolding with_line
  line-brings ts = rw opened (sym (with_value-shown ts name d) ∙ ap (with_value ts name) is)

  -- the record of the line is that of the value
  record-is : value_record d ≡ value_record v
  record-is = sym (value_record-shown d) ∙ ap value_record is

  -- the record of the line was read, or refused
  pub record-read : {Y : Type 0} (r : Result (String Y × Rec) LineFault) → MatchResult r (λ p. (string_bytes p.0 ≡ name) × (value_record v ≡ Ok p.1)) (λ e. Fails e (value_record v))
      → MatchResult r (λ p. line_record text ≡ Ok (string_bytes p.0, p.1)) (λ e. Fails e (line_record text))
  unfolding line_record
  record-read (Ok p) read = rw (opened, record-is, read.1, read.0)
  record-read (Err fault.Memory) read = tt
  record-read (Err (fault.Code code)) read = rw (opened, record-is, read)

  -- the same of a record that is kept with its tap's place, or with its name
  pub own-read : (ts : List Tap) (r : Result OwnRecord LineFault) → MatchResult r (IsOwnOf ts (with_name name (value_record v))) (λ e. Fails e (value_record v)) → MatchResult r (IsOwnOf ts (line_record text)) (λ e. Fails e (line_record text))
  unfolding line_record
  own-read ts (Ok own) read = rw (opened, record-is) read
  own-read ts (Err fault.Memory) read = tt
  own-read ts (Err (fault.Code code)) read = rw (opened, record-is, read) refl
