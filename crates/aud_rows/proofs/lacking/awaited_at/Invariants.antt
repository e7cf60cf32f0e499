use Rattle.std.proofs.Common.{◌≡◌, drop, map, flat_map}
use Rattle.aud_eio.specs.Packet.{engine_view}
use Rattle.aud_sio.specs.Message.{at, messages_of}
use Rattle.aud_client.specs.TapPackets.{messages_at}
use Rattle.aud_rows.specs.Private.Awaited.{awaited}
use Rattle.aud_rows.proofs.lacking.awaited_at.Given as goal

-- what is to come goes on from what is awaited
abbrev pub invariant-loop-packet : goal.invariant-loop-packet
invariant-loop-packet l =
    awaited l.now (at l.number (flat_map messages_of (map engine_view (drop l.packet-index l.packet-items)))) ≡ awaited l.fn.last (messages_at (l.number, l.rec))
