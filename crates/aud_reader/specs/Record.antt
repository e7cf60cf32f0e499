-- The record of a line.
use Rattle.std.specs.Prelude.{ℕ, ◌+◌, ◌==◌, nat_le, List, [], ◌∷◌, length, drop, take, codes, Bool, Option, Some, None, option_map, position, Result, Ok, if◌then◌else◌}
use Rattle.std.specs.List.{list_any}
use Rattle.serde_json.specs.Data.{Data}
use Rattle.aud_reader.specs.declared.fault.InputCode.{InputCode}
use Rattle.aud_reader.specs.declared.fault.InputCode.TheVariants.{LineTooLong, NoTapName, NotJson, UnknownKind, Field}
use Rattle.aud_tap.specs.declared.records.TapKind.{TapKind}
use Rattle.aud_tap.specs.declared.records.TapKind.TheVariants as tap
use Rattle.aud_tap.specs.declared.records.Rec.{Rec}
use Rattle.aud_tap.specs.declared.records.Rec.TheVariants.{Header, Stream, Node, Client}
use Rattle.aud_base.specs.Steps.{◌>>=◌, need, guard}
use Rattle.aud_tap.specs.Limits.{max_line}
use Rattle.aud_tap.specs.Forms.{is_text}
use Rattle.aud_tap.specs.Json.{text_at, json_or}
use Rattle.aud_tap.specs.TapName.{is_tap_name}
use Rattle.aud_reader.specs.Header.{header_of}
use Rattle.aud_reader.specs.StreamRecord.{stream_record_of}
use Rattle.aud_reader.specs.NodeRecord.{node_record_of}
use Rattle.aud_reader.specs.ClientRecord.{client_record_of}

-- the value of JSON text in UTF-8 (RFC 8259)
unfoldable pub json_of : List ℕ → Result Data InputCode
json_of = json_or NotJson

-- what stands before the first blank, and what stands after it
abbrev pub cut_at_blank : List ℕ → Option (List ℕ × List ℕ)
cut_at_blank line = option_map (λ i. (take i line, drop (i + 1) line)) (position (λ b. b == 32) line)

-- a line taken apart: the tap's name, and the value after the first blank
unfoldable pub opened_line : List ℕ → Result (List ℕ × Data) InputCode
opened_line line = do
  line_fits ← guard LineTooLong (nat_le (length line) max_line)
  parts ← need NoTapName (cut_at_blank line)
  named ← guard NoTapName (is_tap_name parts.0)
  d ← json_of parts.1
  Ok (parts.0, d)

-- what an object says that it is
abbrev pub kind_named : Data → Result (List ℕ) InputCode
kind_named d = need Field (text_at (codes "k") d)

-- the kinds of record of a stream, a node and a client, in any version
abbrev pub stream_kinds : List (List ℕ)
stream_kinds = codes "ev" ∷ codes "other" ∷ []

abbrev pub node_kinds : List (List ℕ)
node_kinds =
    codes "start" ∷ codes "take" ∷ codes "takes" ∷ codes "open" ∷ codes "join" ∷ codes "leave"
    ∷ codes "break" ∷ codes "back" ∷ codes "gone" ∷ []

abbrev pub client_kinds : List (List ℕ)
client_kinds =
    codes "conn" ∷ codes "in" ∷ codes "inb" ∷ codes "poll" ∷ codes "out" ∷ codes "lost" ∷ []

-- the text is one of these
abbrev pub is_one_of : List (List ℕ) → List ℕ → Bool
is_one_of words t = list_any (is_text t) words

-- the kind of tap that has records of this kind
abbrev pub tap_of_kind : List ℕ → Option TapKind
tap_of_kind kind =
    if is_one_of stream_kinds kind then Some tap.Stream
    else (if is_one_of node_kinds kind then Some tap.Node
    else (if is_one_of client_kinds kind then Some tap.Client
    else None))

-- the record of this kind in a tap that was put on this
unfoldable pub record_in : TapKind → List ℕ → Data → Result Rec InputCode
record_in tap.Stream kind d = stream_record_of kind d >>= (λ r. Ok (Stream r))
record_in tap.Node kind d = node_record_of kind d >>= (λ r. Ok (Node r))
record_in tap.Client kind d = client_record_of kind d >>= (λ r. Ok (Client r))

-- a header, or the record of this kind in whichever tap has it
unfoldable pub record_of : List ℕ → Data → Result Rec InputCode
record_of kind d =
    if is_text kind (codes "tap") then header_of d >>= (λ header. Ok (Header header.0 header.1))
    else (need UnknownKind (tap_of_kind kind) >>= (λ of. record_in of kind d))

-- the record of a value, by what it says that it is
unfoldable pub value_record : Data → Result Rec InputCode
value_record d = do
  kind ← kind_named d
  record_of kind d

-- the tap's name and the record of a line
unfoldable pub line_record : List ℕ → Result (List ℕ × Rec) InputCode
line_record line = do
  parts ← opened_line line
  rec ← value_record parts.1
  Ok (parts.0, rec)
