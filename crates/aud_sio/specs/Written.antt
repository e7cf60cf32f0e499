-- The text of a packet (Socket.IO protocol 5, "Packet encoding").
use Rattle.std.specs.Prelude.{ℕ, List, [], ◌∷◌, ◌++◌, codes, if◌then◌else◌, Option, Some, None, unwrap_or}
use Rattle.std.specs.Str.{bytes_eq}
use Rattle.std.specs.Fmt.{decimal}
use Rattle.aud_sio.specs.declared.kind.PacketKind.{PacketKind}
use Rattle.aud_sio.specs.Kind.{type_digit, is_binary}
use Rattle.aud_sio.specs.Namespace.{main_namespace}
use Rattle.aud_sio.specs.Packet.{PacketSeen}

-- the digit of the kind
abbrev pub written_kind : PacketKind → List ℕ
written_kind kind = type_digit kind ∷ []

-- of a binary kind, the count and a dash
abbrev pub written_count : PacketKind → ℕ → List ℕ
written_count kind count = if is_binary kind then decimal count ++ codes "-" else []

-- the namespace and a comma, unless it is the main one
abbrev pub written_namespace : List ℕ → List ℕ
written_namespace nsp = if bytes_eq nsp main_namespace then [] else nsp ++ codes ","

-- the acknowledgement id, if there is one
abbrev pub written_id : Option ℕ → List ℕ
written_id None = []
written_id (Some id) = decimal id

-- the payload as it is, if there is one
abbrev pub written_payload : Option (List ℕ) → List ℕ
written_payload payload = unwrap_or payload []

-- the text of a packet: its parts in their order, numbers without leading zeros, the payload as it is
unfoldable pub packet_text : PacketSeen → List ℕ
packet_text p = written_kind p.kind ++ written_count p.kind p.attachments ++ written_namespace p.nsp ++ written_id p.id ++ written_payload p.payload
