-- Why a record of a client's tap is no packet.
--
-- It is said of any record what is refused in it, after the messages of its connection. That it is so exactly of the
-- records that `tap_packets` counts as bad isn't said here: both rest on `engine_packet_of` and `wholes_of`, where the
-- one counts the packets of a record and the other the records of a connection.
use Rattle.std.specs.Prelude.{ℕ, zero, suc, ◌-◌, ◌==◌, ◌||◌, nat_lt, List, [], ◌∷◌, ◌++◌, Option, Some, None, option_map, Ok, Err, Bool, if◌then◌else◌, flat_map, take, slice_get}
use Rattle.std.specs.List.{after_first}
use Rattle.std.specs.Option.{option_and_then, option_or}
use Rattle.aud_tap.specs.declared.records.ClientRec.{ClientRec}
use Rattle.aud_tap.specs.declared.records.ClientRec.TheVariants.{TextIn, Poll}
use Rattle.aud_eio.specs.Packet.{engine_packet_of}
use Rattle.aud_eio.specs.Packet as eio
use Rattle.aud_eio.specs.Body.{body_pieces}
use Rattle.aud_sio.specs.declared.fault.SioFault.TheVariants as sio
use Rattle.aud_sio.specs.Digits.{after_digits}
use Rattle.aud_sio.specs.Namespace.{leading_namespace}
use Rattle.aud_sio.specs.Message.{Message, messages_of, at}
use Rattle.aud_sio.specs.Wholes.{Answer, wholes_of}
use Rattle.aud_client.specs.TapPackets.{engine_packets, messages_at}
use Rattle.aud_rows.specs.Marks.{connection_of}
use Rattle.aud_refusals.specs.NoJson.{is_json, no_json}
use Rattle.aud_refusals.specs.declared.no_packet.NoPacket.{NoPacket}
use Rattle.aud_refusals.specs.declared.no_packet.PayloadFault.{PayloadFault}
use Rattle.aud_refusals.specs.declared.no_packet.PayloadFault.TheVariants.{Missing, NoList, NoJson}
use Rattle.aud_refusals.specs.declared.no_packet.Refusal.{Refusal}
use Rattle.aud_refusals.specs.declared.no_packet.Refusal.TheVariants.{Engine, Socket, Payload}

-- ---- the records before it

-- the messages of records, each at place 0
abbrev pub messages_before : List ClientRec → List (ℕ × Message)
messages_before recs = flat_map (λ rec. messages_at (0, rec)) recs

-- ---- its packets

-- the refusal of the packet with this number, whose text is no Engine.IO packet
abbrev pub engine_refused : ℕ → List ℕ → Option NoPacket
engine_refused number text = elim (engine_packet_of text) [
  | Ok packet ↦ None
  | Err fault ↦ Some (record { refusal = Engine fault; packet = Some number })
]

-- the first of these texts that is no Engine.IO packet; the first has this number
abbrev pub engine_refusal : ℕ → List (List ℕ) → Option NoPacket
engine_refusal number [] = None
engine_refusal number (text ∷ texts) = option_or (engine_refused number text) (engine_refusal (suc number) texts)

-- the messages of packets, each at the number of its packet; the first has this number
abbrev pub packet_messages : ℕ → List eio.Packet → List (ℕ × Message)
packet_messages number [] = []
packet_messages number (packet ∷ packets) = at number (messages_of packet) ++ packet_messages (suc number) packets

-- the first refusal among answers, of those past place 0
abbrev pub first_refusal : List (ℕ × Answer) → Option NoPacket
first_refusal [] = None
first_refusal ((place, Ok whole) ∷ answers) = first_refusal answers
first_refusal ((zero, Err fault) ∷ answers) = first_refusal answers
first_refusal ((suc k, Err fault) ∷ answers) = Some (record { refusal = Socket fault; packet = Some (suc k) })

-- ---- the record

-- the texts of a record's packets
abbrev pub texts_of : ClientRec → List (List ℕ)
texts_of (TextIn t) = t ∷ []
texts_of (Poll t) = body_pieces t
texts_of _ = []

-- the refusal of the record after these messages, of a packet with a number: the first message that is refused; or the
-- first text that is no Engine.IO packet, since then no packet of the record is read
abbrev pub record_refusal : List (ℕ × Message) → ClientRec → Option NoPacket
record_refusal before rec = elim (engine_packets rec) [
  | Ok packets ↦ first_refusal (wholes_of (before ++ packet_messages 1 packets))
  | Err fault ↦ engine_refusal 1 (texts_of rec)
]

-- the refusal of the record with this number, by the decoder
abbrev pub refused_at : List ClientRec → ℕ → Option NoPacket
refused_at recs number = option_and_then (record_refusal (messages_before (connection_of (take number recs)))) (slice_get recs number)

-- ---- what is wrong with a payload

-- the message of a packet
abbrev pub message_in : Option eio.Packet → Option (List ℕ)
message_in (Some (eio.Message text)) = Some text
message_in _ = None

-- the message of the record's packet with this number
abbrev pub message_of : ClientRec → ℕ → Option (List ℕ)
message_of rec number = elim (engine_packets rec) [
  | Ok packets ↦ message_in (slice_get packets (number - 1))
  | Err fault ↦ None
]

-- the sign after a count of attachments
abbrev pub is_dash : ℕ → Bool
is_dash b = b == 45

-- what follows the type, which is one byte, and where it is that of a packet with attachments, their count
abbrev pub after_type : List ℕ → List ℕ
after_type [] = []
after_type (b ∷ rest) =
    if nat_lt b 128 then (if b == 53 || b == 54 then after_first is_dash rest else rest)
    else []

-- what follows type, count, namespace and acknowledgement id, in a packet in which these are right
abbrev pub payload_of : List ℕ → List ℕ
payload_of text = after_digits (leading_namespace (after_type text)).1

-- why a payload is not what the kind wants, where the decoder refuses it
abbrev pub payload_fault : List ℕ → PayloadFault
payload_fault [] = Missing
payload_fault (b ∷ bs) = if is_json (b ∷ bs) then NoList else NoJson (no_json (b ∷ bs))

abbrev pub told_refusal : Refusal → Option (List ℕ) → Refusal
told_refusal (Socket sio.Payload) (Some message) = Payload (payload_fault (payload_of message))
told_refusal refusal message = refusal

-- the number is told of a packet of a polling body, where others may stand
abbrev pub told_number : ClientRec → Option ℕ → Option ℕ
told_number (Poll t) number = number
told_number _ number = None

-- the refusal, and of a payload what is wrong with it
abbrev pub told : ClientRec → NoPacket → NoPacket
told rec found = record {
  refusal = told_refusal found.refusal (option_and_then (message_of rec) found.packet);
  packet = told_number rec found.packet;
}

-- the same of a refusal of the record, if there are both
abbrev pub told_of : Option NoPacket → Option ClientRec → Option NoPacket
told_of found rec = option_and_then (λ (r : ClientRec). option_map (told r) found) rec

-- the refusal of the record with this number
abbrev pub no_packet_at : List ClientRec → ℕ → Option NoPacket
no_packet_at recs number = told_of (refused_at recs number) (slice_get recs number)
