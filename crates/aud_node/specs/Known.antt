-- Which texts are known: those of the events that are sent again as their text alone.
use Rattle.std.specs.Prelude.{ℕ, Bool, false, List, [], ◌&&◌, ◌==◌, length, Option, None, Result, Ok, Err}
use Rattle.std.specs.Str.{bytes_eq}
use Rattle.aud_tap.specs.declared.records.Event.{Event}
use Rattle.aud_tap.specs.declared.records.StreamRec.{StreamRec}
use Rattle.aud_tap.specs.declared.records.StreamRec.TheVariants.{Ev, Other}
use Rattle.aud_sio.specs.declared.fault.SioFault.{SioFault}
use Rattle.aud_sio.specs.declared.kind.PacketKind.TheVariants.{Event as EventPacket}
use Rattle.aud_sio.specs.Packet.{PacketSeen, packet_of}
use Rattle.aud_sio.specs.Wholes.{WholeSeen}
use Rattle.aud_node.specs.Lists.{first_index}
use Rattle.aud_node.specs.Recoverable.{is_recoverable}
use Rattle.aud_node.specs.Stream.{Text}

-- the event is sent again after a recovery, and has no attachments
abbrev pub is_sent_alone : Event → Bool
is_sent_alone event = is_recoverable (Ev event) && (length event.bin == 0)

-- the entry is such an event, and this is its text
abbrev pub is_sent_as : Text → StreamRec → Bool
is_sent_as text (Ev event) = bytes_eq event.text text && is_sent_alone event
is_sent_as text (Other off) = false

-- of the entries, which count from 0, the first such event that has the text
abbrev pub known_entry : List StreamRec → Text → Option ℕ
known_entry stream text = first_index (is_sent_as text) stream

-- the packet that was read; an event without anything, where none was
abbrev pub packet_read : Result PacketSeen SioFault → PacketSeen
packet_read (Ok packet) = packet
packet_read (Err fault) = record { kind = EventPacket; attachments = 0; nsp = []; id = None; payload = None; last = None }

-- the whole packet that the text of such an event spells
abbrev pub spelled : Text → WholeSeen
spelled text = record { text = text; packet = packet_read (packet_of text); bin = [] }
