use Rattle.std.proofs.Common.{◌≡◌, ◌+◌, suc, length, map}
use Rattle.aud_eio.specs.Packet.{engine_view}
use Rattle.aud_sio.specs.Assembly.{Waits}
use Rattle.aud_refusals.specs.NoPacket.{packet_messages}
use Rattle.aud_refusals.specs.Private.Fed.{refusal_to}
use Rattle.aud_refusals.proofs.packets.socket_refusal.Given as goal

-- what is to come gives the refusal
abbrev pub invariant-loop-packet : goal.invariant-loop-packet
invariant-loop-packet l = record {
  counted : l.number + length l.packet-iterator.rest.items ≡ l.count;
  refused : refusal_to l.assembler (packet_messages (suc l.number) (map engine_view l.packet-iterator.rest.items)) ≡ refusal_to l.fn.assembler (packet_messages 1 (map engine_view l.fn.packets.items));
  waits : Waits l.assembler;
}
