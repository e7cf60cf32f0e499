-- The kinds of packet and their digits (Socket.IO protocol 5, "Packet encoding").
use Rattle.std.specs.Prelude.{ℕ, ◌+◌, ◌==◌, List, [], ◌∷◌, Bool, true, false, Result, Ok, Err, find}
use Rattle.aud_sio.specs.declared.fault.SioFault.{SioFault}
use Rattle.aud_sio.specs.declared.fault.SioFault.TheVariants.{Empty, UnknownType}
use Rattle.aud_sio.specs.declared.kind.PacketKind.{PacketKind}
use Rattle.aud_sio.specs.declared.kind.PacketKind.TheVariants.{Connect, Disconnect, Event, Ack, ConnectError, BinaryEvent, BinaryAck}
use Rattle.aud_base.specs.Steps.{◌>>=◌, need}

-- the number of a kind
abbrev pub type_number : PacketKind → ℕ
type_number Connect = 0
type_number Disconnect = 1
type_number Event = 2
type_number Ack = 3
type_number ConnectError = 4
type_number BinaryEvent = 5
type_number BinaryAck = 6

-- the kinds by their number
abbrev pub kinds : List PacketKind
kinds = Connect ∷ Disconnect ∷ Event ∷ Ack ∷ ConnectError ∷ BinaryEvent ∷ BinaryAck ∷ []

-- the ASCII digit of a kind
abbrev pub type_digit : PacketKind → ℕ
type_digit kind = 48 + type_number kind

-- the kind with this digit
abbrev pub kind_of_digit : ℕ → Result PacketKind SioFault
kind_of_digit byte = need UnknownType (find (λ kind. type_digit kind == byte) kinds)

-- the kind at the front, and the rest
unfoldable pub kind_at : List ℕ → Result (PacketKind × List ℕ) SioFault
kind_at [] = Err Empty
kind_at (byte ∷ rest) = do
  kind ← kind_of_digit byte
  Ok (kind, rest)

-- whether binary messages follow the packet
abbrev pub is_binary : PacketKind → Bool
is_binary BinaryEvent = true
is_binary BinaryAck = true
is_binary _ = false

-- whether the payload has to be there and to be an array
abbrev pub wants_array : PacketKind → Bool
wants_array Event = true
wants_array Ack = true
wants_array BinaryEvent = true
wants_array BinaryAck = true
wants_array _ = false
