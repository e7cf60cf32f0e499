use Rattle.std.proofs.Common.{◌≡◌, ◌++◌, map, flat_map}
use Rattle.aud_eio.specs.Packet.{engine_view}
use Rattle.aud_sio.specs.Message.{messages_of}
use Rattle.aud_client.specs.Private.ConnectionRead.{Reads}
use Rattle.aud_client.proofs.connection.Reader.receive_all.Given as goal

abbrev pub invariant-loop-packet : goal.invariant-loop-packet
invariant-loop-packet l = record {
  items_are : l.yielded ++ l.packet-iterator.rest.items ≡ l.fn.packets.items;
  reads : Reads l.number (flat_map messages_of (map engine_view l.yielded)) l.fn.self l.self;
}
