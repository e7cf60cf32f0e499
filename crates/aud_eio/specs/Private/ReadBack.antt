-- The packet of a written text.
use Rattle.std.specs.Prelude.{◌≡◌, Ok}
use Rattle.aud_eio.specs.Packet.{Packet, engine_packet_of, engine_text, delivered}

-- the text of a packet gives the packet
abbrev pub ReadsBack : Packet → Type 0
ReadsBack packet = engine_packet_of (engine_text packet) ≡ Ok (delivered packet)
