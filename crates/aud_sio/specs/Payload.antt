-- The payload of a packet (Socket.IO protocol 5, "Packet encoding"; RFC 8259).
use Rattle.std.specs.Prelude.{ℕ, ◌||◌, not, List, [], ◌∷◌, if◌then◌else◌, Option, Some, None, option_and_then, is_some, Result, Ok, Err}
use Rattle.serde_json.specs.Data.{Data, Items, no_items, item}
use Rattle.serde_json.specs.Read.{read}
use Rattle.serde_json.specs.Find.{as_str, as_array}
use Rattle.aud_sio.specs.declared.fault.SioFault.{SioFault}
use Rattle.aud_sio.specs.declared.fault.SioFault.TheVariants.{Payload}
use Rattle.aud_sio.specs.declared.kind.PacketKind.{PacketKind}
use Rattle.aud_base.specs.Steps.{◌>>=◌, need, guard}
use Rattle.aud_sio.specs.Kind.{wants_array}

-- the last of the items, if there is one
abbrev pub last_item : Items → Option Data
last_item no_items = None
last_item (item value no_items) = Some value
last_item (item value (item next more)) = last_item (item next more)

-- the last element of an array, where it is a text
abbrev pub text_at_end : Data → Option (List ℕ)
text_at_end json = option_and_then as_str (option_and_then last_item (as_array json))

-- the text at the end of a value, which is an array where the kind wants one
abbrev pub last_of_value : PacketKind → Data → Result (Option (List ℕ)) SioFault
last_of_value kind json = do
  shape ← guard Payload (not (wants_array kind) || is_some (as_array json))
  Ok (text_at_end json)

-- the text at the end of a payload, which has to be JSON
unfoldable pub last_of_payload : PacketKind → List ℕ → Result (Option (List ℕ)) SioFault
last_of_payload kind text = do
  json ← need Payload (read text)
  last_of_value kind json

-- all that is left is the payload; with it the text at its end
unfoldable pub payload_at : PacketKind → List ℕ → Result (Option (List ℕ) × Option (List ℕ)) SioFault
payload_at kind [] = if wants_array kind then Err Payload else Ok (None, None)
payload_at kind (byte ∷ rest) = do
  last ← last_of_payload kind (byte ∷ rest)
  Ok (Some (byte ∷ rest), last)
