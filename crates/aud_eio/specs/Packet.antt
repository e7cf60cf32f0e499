-- The packet of a text, and the text of a packet (Engine.IO protocol 4, "Packet encoding").
use Rattle.std.specs.Prelude.{ℕ, ◌==◌, List, [], ◌∷◌, if◌then◌else◌, Option, Some, None, option_map, ok_or, Result, Ok, Err}
use Rattle.std.specs.Result.{result_ok}
use Rattle.base64.specs.GeneralPurpose.{decode_of, encode_of}
use Rattle.base64.specs.Engines.{standard}
use Rattle.aud_eio.specs.declared.packet.Control.{Control as ControlType}
use Rattle.aud_eio.specs.declared.packet.Control.TheVariants.{Opening, Closing, Ping, Pong, Upgrade, Noop}
use Rattle.aud_eio.specs.declared.packet.Eio.{Eio}
use Rattle.aud_eio.specs.declared.packet.Eio.TheVariants as code
use Rattle.aud_eio.specs.declared.packet.EioFault.{EioFault}
use Rattle.aud_eio.specs.declared.packet.EioFault.TheVariants.{Empty, UnknownType, BadBase64}

-- a packet without where it lies in memory; bytes that came as bytes and bytes that came in base64 differ
pub data Packet : Type 0 where
  Control : ControlType → List ℕ → Packet
  Message : List ℕ → Packet
  Lent : List ℕ → Packet
  Own : List ℕ → Packet

abbrev pub engine_view : Eio → Packet
engine_view (code.Control kind payload) = Control kind payload.now
engine_view (code.Message text) = Message text.now
engine_view (code.Lent bytes) = Lent bytes.now
engine_view (code.Own bytes) = Own bytes.items

-- the type digit of a control packet
abbrev pub digit_of : ControlType → ℕ
digit_of Opening = 48
digit_of Closing = 49
digit_of Ping = 50
digit_of Pong = 51
digit_of Upgrade = 53
digit_of Noop = 54

-- the control packet of a type digit
abbrev pub control_of : ℕ → Option ControlType
control_of b = if b == 48 then Some Opening else (if b == 49 then Some Closing else (if b == 50 then Some Ping
    else (if b == 51 then Some Pong else (if b == 53 then Some Upgrade else (if b == 54 then Some Noop else None)))))

-- the bytes of a text in base64: padded, with unused bits zero (RFC 4648, section 4)
abbrev pub base64_bytes : List ℕ → Option (List ℕ)
base64_bytes text = result_ok (decode_of standard text)

-- the packet of a text: digit 4 a message, `b` bytes in base64, the other digits up to 6 controls
abbrev pub engine_packet_of : List ℕ → Result Packet EioFault
engine_packet_of [] = Err Empty
engine_packet_of (b ∷ payload) =
    if b == 52 then Ok (Message payload)
    else (if b == 98 then ok_or (option_map Own (base64_bytes payload)) BadBase64
    else ok_or (option_map (λ kind. Control kind payload) (control_of b)) UnknownType)

-- the text of a packet
abbrev pub engine_text : Packet → List ℕ
engine_text (Control kind payload) = digit_of kind ∷ payload
engine_text (Message text) = 52 ∷ text
engine_text (Lent bytes) = 98 ∷ encode_of standard bytes
engine_text (Own bytes) = 98 ∷ encode_of standard bytes

-- a packet as its text delivers it: bytes come in base64
abbrev pub delivered : Packet → Packet
delivered (Lent bytes) = Own bytes
delivered packet = packet
