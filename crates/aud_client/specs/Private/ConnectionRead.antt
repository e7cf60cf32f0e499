-- What was read of a connection.
use Rattle.std.specs.Prelude.{◌≡◌, ◌+◌, ◌<◌, ℕ, List, [], ◌∷◌, ◌++◌, Bool, true, false, map, flat_map, filter, length, Option, Some, None, Result, Ok, Err, if◌then◌else◌}
use Rattle.std.specs.List.{list_any}
use Rattle.aud_tap.specs.declared.records.ClientRec.{ClientRec}
use Rattle.aud_tap.specs.declared.records.ClientRec.TheVariants.{Conn, Lost}
use Rattle.aud_eio.specs.Packet as eio
use Rattle.aud_eio.specs.declared.packet.EioFault.{EioFault}
use Rattle.aud_sio.specs.declared.packet.Packet.{Packet}
use Rattle.aud_sio.specs.Packet.{packet_view}
use Rattle.aud_sio.specs.Message.{Message, messages_of, at}
use Rattle.aud_sio.specs.Wholes.{Answer, wholes_of}
use Rattle.aud_sio.specs.Assembly.{Continues, Waits, wholes_after}
use Rattle.aud_client.specs.TapPackets.{TapPacket, FromServer, FromClient, numbered_records, messages_at, packets_at, is_bad, is_refused, first_of}
use Rattle.aud_client.specs.Seen.{placed_seen}
use Rattle.aud_client.specs.declared.connection.Reader.{Reader}

-- the client's packet, if there is one
abbrev pub sent_seen : Option Packet → List TapPacket
sent_seen None = []
sent_seen (Some packet) = FromClient (packet_view packet) ∷ []

-- the packets that were read
abbrev pub packets_read : Reader → List (ℕ × TapPacket)
packets_read reader = map placed_seen reader.packets.items

-- the whole packets among answers
abbrev pub wholes_in : List Answer → List TapPacket
wholes_in [] = []
wholes_in (Ok whole ∷ answers) = FromServer whole ∷ wholes_in answers
wholes_in (Err fault ∷ answers) = wholes_in answers

-- the first bad record, where this one may be bad
abbrev pub bad_or : Option ℕ → ℕ → Bool → Option ℕ
bad_or (Some first) number is_bad = Some first
bad_or None number is_bad = if is_bad then Some number else None

-- messages of the record with this number were read
pub record Reads (number : ℕ) (messages : List Message) (old new : Reader) : Type 0 where
  pub answers : List Answer
  pub continues : Continues old.assembler messages answers new.assembler
  pub packets_are : packets_read new ≡ packets_read old ++ at number (wholes_in answers)
  pub bad_is : new.bad ≡ bad_or old.bad number (list_any is_refused answers)
  pub waits : Waits old.assembler → Waits new.assembler

-- the record with this number was refused
pub record RefusesRecord (number : ℕ) (old new : Reader) : Type 0 where
  pub assembler_is : new.assembler ≡ old.assembler
  pub packets_are : packets_read new ≡ packets_read old
  pub bad_is : new.bad ≡ bad_or old.bad number true

-- the messages of these Engine.IO packets were read, or their record was refused
abbrev pub ReadsEngine : ℕ → Result (List eio.Packet) EioFault → Reader → Reader → Type 0
ReadsEngine number (Ok packets) old new = Reads number (flat_map messages_of packets) old new
ReadsEngine number (Err fault) old new = RefusesRecord number old new

-- the record with this number was read
pub record ReadsRecord (number : ℕ) (rec : ClientRec) (old new : Reader) : Type 0 where
  pub answers : List Answer
  pub continues : (l : List (ℕ × Message)) → wholes_after old.assembler (messages_at (number, rec) ++ l) ≡ at number answers ++ wholes_after new.assembler l
  pub packets_are : packets_read new ≡ packets_read old ++ packets_at (at number answers) (number, rec)
  pub bad_is : new.bad ≡ bad_or old.bad number (is_bad (at number answers) (number, rec))
  pub waits : Waits old.assembler → Waits new.assembler

-- the record ends the connection before it
abbrev pub ends_connection : ClientRec → Bool
ends_connection (Conn c) = true
ends_connection Lost = true
ends_connection _ = false

-- the records before the next one that ends the connection
abbrev pub inside : List ClientRec → List ClientRec
inside [] = []
inside (rec ∷ recs) = if ends_connection rec then [] else rec ∷ inside recs

-- the answers stand before this record
abbrev pub AreBefore : ℕ → List (ℕ × Answer) → Type 0
AreBefore number [] = Unit {0}
AreBefore number (answer ∷ answers) = (answer.0 < number) × AreBefore number answers

-- so many records of a connection were read, the first of which has this number, and gave these packets
pub record HasGiven (first : ℕ) (recs : List ClientRec) (packets : List (ℕ × TapPacket)) (reader : Reader) : Type 0 where
  pub answers : List (ℕ × Answer)
  pub before : AreBefore (first + length recs) answers
  pub continues : (l : List (ℕ × Message)) → wholes_of (flat_map messages_at (numbered_records first recs) ++ l) ≡ answers ++ wholes_after reader.assembler l
  pub packets_are : packets ≡ flat_map (packets_at answers) (numbered_records first recs)
  pub bad_is : reader.bad ≡ first_of (map (λ (rec : ℕ × ClientRec). rec.0) (filter (is_bad answers) (numbered_records first recs)))
  pub waits : Waits reader.assembler

-- so many records of a connection were read, the first of which has this number, and their packets are held
abbrev pub HasRead : ℕ → List ClientRec → Reader → Type 0
HasRead first recs reader = HasGiven first recs (packets_read reader) reader
