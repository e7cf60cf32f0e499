-- Help on a line whose kind, header or offset does not fit in its tap.
use Rattle.std.specs.Prelude.{ℕ, ◌&&◌, List, [], ◌++◌, codes, decimal, Option, Some, None, if◌then◌else◌}
use Rattle.serde_json.specs.Data.{Data}
use Rattle.aud_tap.specs.declared.records.TapKind.{TapKind}
use Rattle.aud_tap.specs.declared.records.TapKind.TheVariants.{Stream, Node, Client}
use Rattle.aud_tap.specs.Forms.{is_id, is_text}
use Rattle.aud_tap.specs.Json.{text_at}
use Rattle.aud_tap.specs.Limits.{fits, max_offset}
use Rattle.aud_reader.specs.Fields.{number_at}
use Rattle.aud_reader.specs.Record.{tap_of_kind}

-- the line of the tap's first header, where it is known
abbrev pub header_text : Option ℕ → List ℕ
header_text None = []
header_text (Some line) = codes "The header of this tap stands on line " ++ decimal line ++ codes ".\n"

-- the taps of nodes that have records of this kind
abbrev pub nodes_text : List ℕ → List ℕ
nodes_text kind =
    if is_text kind (codes "takes") then codes "Records of this kind stand in the taps of nodes that are written in version 2.\n"
    else codes "Records of this kind stand in the taps of nodes.\n"

-- the taps that have records of this kind
abbrev pub owner_text : List ℕ → Option TapKind → List ℕ
owner_text kind None = codes "No tap has records of this kind.\n"
owner_text kind (Some Stream) = codes "Records of this kind stand in the tap of the stream.\n"
owner_text kind (Some Node) = nodes_text kind
owner_text kind (Some Client) = codes "Records of this kind stand in the taps of clients.\n"

-- a line of a kind that its tap does not have, or a header that names no kind of tap
abbrev pub unknown_text : List ℕ → Option ℕ → List ℕ
unknown_text kind header =
    if is_text kind (codes "tap") then codes "The field of has to be stream, node or client.\n"
    else owner_text kind (tap_of_kind kind) ++ header_text header

-- the same where the value says its kind
abbrev pub said_text : Option ℕ → Option (List ℕ) → List ℕ
said_text header None = []
said_text header (Some kind) = unknown_text kind header

-- help on the value of a line whose kind is unknown
abbrev pub kind_help : Data → Option ℕ → List ℕ
kind_help d header = said_text header (text_at (codes "k") d)

-- a version that is not read
abbrev pub version_text : Option ℕ → List ℕ
version_text None = []
version_text (Some v) = codes "The field v is " ++ decimal v ++ codes "; the versions 1 and 2 are read.\n"

-- help on a header of another version
abbrev pub version_help : Data → List ℕ
version_help d = version_text (number_at (codes "v") d)

-- an offset that an earlier entry has
abbrev pub offset_text : Option (List ℕ) → List ℕ
offset_text None = []
offset_text (Some off) = if is_id off && fits max_offset off then codes "An earlier entry of the stream has the offset " ++ off ++ codes ".\n" else []

-- help on an entry whose offset an earlier one has
abbrev pub offset_help : Data → List ℕ
offset_help d = offset_text (text_at (codes "off") d)

-- help on the header of a second stream
abbrev pub second_help : Option ℕ → List ℕ
second_help None = codes "A bundle may have one stream.\n"
second_help (Some line) = codes "A bundle may have one stream: its header stands on line " ++ decimal line ++ codes ".\n"

-- help on a first line that is no header
abbrev pub first_help : List ℕ
first_help = codes "The first line of a tap is its header: k is tap, v is 1 or 2, and of is stream, node or client.\n"
