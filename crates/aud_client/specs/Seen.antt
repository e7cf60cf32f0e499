-- What contracts see of packets and connections.
use Rattle.std.specs.Prelude.{ℕ, List, map}
use Rattle.aud_sio.specs.Packet.{packet_view}
use Rattle.aud_sio.specs.Assembly.{whole_view}
use Rattle.aud_node.specs.Known.{spelled}
use Rattle.aud_client.specs.TapPackets.{TapPacket, FromServer, FromClient, Connection}
use Rattle.aud_client.specs.declared.connection.TapPacket.{TapPacket as PacketCode}
use Rattle.aud_client.specs.declared.connection.TapPacket.TheVariants as code
use Rattle.aud_client.specs.declared.connection.Placed.{Placed}
use Rattle.aud_client.specs.declared.client_tap.Connection.{Connection as ConnectionCode}

-- a packet, its attachments put together
abbrev pub packet_seen : PacketCode → TapPacket
packet_seen (code.FromServer whole) = FromServer (whole_view whole)
packet_seen (code.Known known) = FromServer (spelled known.event.now.text)
packet_seen (code.FromClient packet) = FromClient (packet_view packet)

-- a packet at its record
abbrev pub placed_seen : Placed → ℕ × TapPacket
placed_seen placed = (placed.number, packet_seen placed.packet)

abbrev pub connection_seen : ConnectionCode → Connection
connection_seen connection = record { c = connection.c; packets = map placed_seen connection.packets.items }

-- the connections in their order
abbrev pub connections_seen : List ConnectionCode → List Connection
connections_seen connections = map connection_seen connections
