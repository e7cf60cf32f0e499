use Rattle.std.proofs.Common.{◌≡◌, ◌++◌, map, flat_map}
use Rattle.aud_eio.specs.Packet.{engine_view}
use Rattle.aud_sio.specs.Message.{at, messages_of}
use Rattle.aud_refusals.specs.Private.Fed.{Passes}
use Rattle.aud_refusals.proofs.before.pass_packets.Given as goal

abbrev pub invariant-loop-packet : goal.invariant-loop-packet
invariant-loop-packet l = record {
  items_are : l.yielded ++ l.packet-iterator.rest.items ≡ l.fn.packets.items;
  passes : Passes l.fn.assembler (at 0 (flat_map messages_of (map engine_view l.yielded))) l.assembler;
}
