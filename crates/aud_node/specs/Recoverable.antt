-- Which entries a server sends again after a recovery.
use Rattle.std.specs.Prelude.{ℕ, List, Bool, true, false, length, Option, Some, None, Result, Ok, Err, ◌&&◌, is_none, nat_eq}
use Rattle.std.specs.Str.{bytes_eq}
use Rattle.aud_tap.specs.declared.records.Event.{Event}
use Rattle.aud_tap.specs.declared.records.StreamRec.{StreamRec}
use Rattle.aud_tap.specs.declared.records.StreamRec.TheVariants.{Ev, Other}
use Rattle.aud_sio.specs.declared.fault.SioFault.{SioFault}
use Rattle.aud_sio.specs.declared.kind.PacketKind.{PacketKind}
use Rattle.aud_sio.specs.declared.kind.PacketKind.TheVariants.{Event as EventPacket, BinaryEvent}
use Rattle.aud_sio.specs.Packet.{PacketSeen, packet_of}

-- the types of packet that carry an event
abbrev pub is_event : PacketKind → Bool
is_event EventPacket = true
is_event BinaryEvent = true
is_event _ = false

-- the payload array of the packet ends in this text
abbrev pub ends_in : Option (List ℕ) → List ℕ → Bool
ends_in None off = false
ends_in (Some last) off = bytes_eq last off

-- the packet carries an event of this one's namespace without acknowledgement id, its payload array ends in this
-- one's offset, and it announces as many attachments as this one has
abbrev pub is_packet_of : Event → PacketSeen → Bool
is_packet_of event packet =
    is_event packet.kind
    && (bytes_eq packet.nsp event.nsp
    && (is_none packet.id
    && (ends_in packet.last event.off
    && nat_eq packet.attachments (length event.bin))))

-- the text is read as a packet, and the packet is one of this event
abbrev pub reads_as : Event → Result PacketSeen SioFault → Bool
reads_as event (Ok packet) = is_packet_of event packet
reads_as event (Err fault) = false

-- the entry is an event, and its text is a packet of it
unfoldable pub is_recoverable : StreamRec → Bool
is_recoverable (Ev event) = reads_as event (packet_of event.text)
is_recoverable (Other off) = false
