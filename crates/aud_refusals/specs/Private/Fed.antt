-- What an assembler was given, and what it refused.
use Rattle.std.specs.Prelude.{◌≡◌, ℕ, List, [], ◌∷◌, ◌++◌, Option, Some, None, Result, Ok, Err}
use Rattle.aud_sio.specs.declared.fault.SioFault.{SioFault}
use Rattle.aud_sio.specs.Message.{Message}
use Rattle.aud_sio.specs.Wholes.{Answer}
use Rattle.aud_sio.specs.Assembly.{Continues, Waits, wholes_after}
use Rattle.aud_tap.specs.declared.records.ClientRec.{ClientRec}
use Rattle.aud_client.specs.TapPackets.{engine_packets}
use Rattle.aud_refusals.specs.declared.no_packet.NoPacket.{NoPacket}
use Rattle.aud_refusals.specs.NoPacket.{engine_refusal, first_refusal, packet_messages, texts_of}

-- the first refusal of what comes after the messages held
abbrev pub refusal_to : List Message → List (ℕ × Message) → Option NoPacket
refusal_to held l = first_refusal (wholes_after held l)

-- the refusal of the record that comes after the messages held
abbrev pub refused_to : List Message → ClientRec → Option NoPacket
refused_to held rec = elim (engine_packets rec) [
  | Ok packets ↦ refusal_to held (packet_messages 1 packets)
  | Err fault ↦ engine_refusal 1 (texts_of rec)
]

-- the first fault of answers
abbrev pub first_fault : List Answer → Option SioFault
first_fault [] = None
first_fault (Ok whole ∷ answers) = first_fault answers
first_fault (Err fault ∷ answers) = Some fault

-- an assembler was given these messages, and refused them so
pub record Fed (old : List Message) (messages : List Message) (new : List Message) (fault : Option SioFault) : Type 0 where
  pub answers : List Answer
  pub continues : Continues old messages answers new
  pub fault_is : fault ≡ first_fault answers
  pub waits : Waits old → Waits new

abbrev pub OnFed : {E : Type 0} → List Message → List Message → List Message → Result (Option SioFault) E → Type 0
OnFed old messages new (Ok fault) = Fed old messages new fault
OnFed old messages new (Err e) = Unit {0}

-- messages at place 0 were given: what comes next is refused as it was
pub record Passes (old : List Message) (messages : List (ℕ × Message)) (new : List Message) : Type 0 where
  pub next : (l : List (ℕ × Message)) → refusal_to old (messages ++ l) ≡ refusal_to new l
  pub waits : Waits old → Waits new
