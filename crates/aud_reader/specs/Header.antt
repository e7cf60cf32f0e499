-- The header of a tap, its first line.
use Rattle.std.specs.Prelude.{ℕ, ◌==◌, List, codes, Option, Some, None, Result, Ok, if◌then◌else◌}
use Rattle.serde_json.specs.Data.{Data}
use Rattle.aud_reader.specs.declared.fault.InputCode.{InputCode}
use Rattle.aud_reader.specs.declared.fault.InputCode.TheVariants as fault
use Rattle.aud_tap.specs.declared.records.TapKind.{TapKind}
use Rattle.aud_tap.specs.declared.records.TapKind.TheVariants.{Stream, Node, Client}
use Rattle.aud_tap.specs.declared.records.Version.{Version}
use Rattle.aud_tap.specs.declared.records.Version.TheVariants.{One, Two}
use Rattle.aud_base.specs.Steps.{◌>>=◌, need}
use Rattle.aud_tap.specs.Forms.{is_text}
use Rattle.aud_tap.specs.Json.{text_at}
use Rattle.aud_reader.specs.Fields.{number_at}

-- the kind of tap that a word names
abbrev pub tap_kind : List ℕ → Option TapKind
tap_kind word = if is_text word (codes "stream") then Some Stream
    else (if is_text word (codes "node") then Some Node
    else (if is_text word (codes "client") then Some Client
    else None))

-- the version that a number names
abbrev pub version_numbered : ℕ → Option Version
version_numbered v = if v == 1 then Some One
    else (if v == 2 then Some Two
    else None)

-- what the tap was put on, and the version that it is written in
unfoldable pub header_of : Data → Result (TapKind × Version) InputCode
header_of d = do
  v ← need fault.Field (number_at (codes "v") d)
  of ← need fault.Field (text_at (codes "of") d)
  version ← need fault.Version (version_numbered v)
  kind ← need fault.UnknownKind (tap_kind of)
  Ok (kind, version)
