use Rattle.std.proofs.Common.{◌∙◌, ap, arith, length, map}
use Rattle.aud_eio.specs.Packet.{engine_view}
use Rattle.aud_refusals.proofs.Going.{socket-first, socket-past}
use Rattle.aud_refusals.proofs.packets.socket_refusal.Goals as goal

pub returns-in-Some-2 : goal.returns-in-Some-2
returns-in-Some-2 c =
    socket-first c.loop-packet.assembler c.feed.new.assembler c.loop-packet.number (engine_view c.in-Some.packet) (map engine_view c.loop-packet.packet-iterator.rest.items) (map engine_view c.next.new.self.rest.items) c.in_ok-fault.field-0 c.in-Some-2.fault
    (ap (map engine_view) c.in-Some.ensures.steps.0) c.in_ok-fault.ensures c.in-Some-2.is
    ∙ c.loop-packet.invariant.refused

pub loop-packet-preserved : goal.loop-packet-preserved
loop-packet-preserved c =
    let steps = c.in-Some.ensures.steps.0 in
    let counted = c.loop-packet.invariant.counted in
    let more = ap length steps in
    record {
      counted = omega (arith, counted, more);
      refused =
          socket-past c.loop-packet.assembler c.feed.new.assembler c.loop-packet.number (engine_view c.in-Some.packet) (map engine_view c.loop-packet.packet-iterator.rest.items) (map engine_view c.next.new.self.rest.items) c.in_ok-fault.field-0
          (ap (map engine_view) steps) c.in_ok-fault.ensures c.in_default.not-Some
          ∙ c.loop-packet.invariant.refused;
      waits = c.in_ok-fault.ensures.waits c.loop-packet.invariant.waits;
    }
