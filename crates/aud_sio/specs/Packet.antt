-- The packet that a text spells (Socket.IO protocol 5, "Packet encoding").
use Rattle.std.specs.Prelude.{◌≡◌, ℕ, nat_lt, List, length, Bool, false, Option, option_map, Result, Ok, Err, string_bytes}
use Rattle.std.specs.Borrow.{Bor}
use Rattle.aud_sio.specs.declared.fault.SioFault.{SioFault}
use Rattle.aud_sio.specs.declared.kind.PacketKind.{PacketKind}
use Rattle.aud_sio.specs.declared.packet.Packet.{Packet}
use Rattle.aud_base.specs.Steps.{◌>>=◌}
use Rattle.aud_sio.specs.Kind.{kind_at}
use Rattle.aud_sio.specs.Attachments.{attachments_at}
use Rattle.aud_sio.specs.Namespace.{leading_namespace}
use Rattle.aud_sio.specs.AckId.{ack_id_at}
use Rattle.aud_sio.specs.Payload.{payload_at}

-- a packet as contracts see it: its texts are their bytes, wherever they lie
pub record PacketSeen : Type 0 where
  pub kind : PacketKind
  pub attachments : ℕ
  pub nsp : List ℕ
  pub id : Option ℕ
  pub payload : Option (List ℕ)
  pub last : Option (List ℕ)

-- what contracts see of a packet
abbrev pub packet_view : Packet → PacketSeen
packet_view p = record {
  kind = p.kind;
  attachments = p.attachments;
  nsp = p.nsp.now;
  id = p.id;
  payload = option_map (λ (text : Bor (List ℕ)). text.now) p.payload;
  last = option_map string_bytes p.last;
}

-- the parts of a text in their order: type, count of attachments, namespace, acknowledgement id, payload
unfoldable pub packet_of : List ℕ → Result PacketSeen SioFault
packet_of text = do
  (kind, rest) ← kind_at text
  (attachments, rest) ← attachments_at kind rest
  let (nsp, rest) = leading_namespace rest
  (id, rest) ← ack_id_at rest
  (payload, last) ← payload_at kind rest
  Ok (record { kind = kind; attachments = attachments; nsp = nsp; id = id; payload = payload; last = last })

-- what is left for the payload after type, count of attachments, namespace and acknowledgement id
unfoldable pub payload_text : List ℕ → Result (List ℕ) SioFault
payload_text text = do
  (kind, rest) ← kind_at text
  (attachments, rest) ← attachments_at kind rest
  let (nsp, rest) = leading_namespace rest
  (id, rest) ← ack_id_at rest
  Ok rest

-- whether any byte is left for the payload
abbrev pub has_payload : List ℕ → Bool
has_payload text = elim (payload_text text) [ Ok rest ↦ nat_lt 0 (length rest) | Err fault ↦ false ]

-- some text spells this packet
pub record IsSpelled (packet : PacketSeen) : Type 0 where
  pub text : List ℕ
  pub reads : packet_of text ≡ Ok packet
