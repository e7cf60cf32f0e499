use Rattle.std.proofs.Common.{◌≡◌, ◌++◌, map, take, All, string_bytes}
use Rattle.aud_eio.specs.Packet.{engine_view}
use Rattle.aud_eio.specs.Private.ReadBack.{ReadsBack}
use Rattle.aud_eio.specs.Body.{body_of}
use Rattle.aud_eio.proofs.Bodies.{gap}
use Rattle.aud_eio.proofs.body.push_packets.Given as goal

abbrev pub invariant-loop-packet : goal.invariant-loop-packet
invariant-loop-packet l =
    (string_bytes l.body ≡ string_bytes l.initial.body ++ body_of (map engine_view (take l.packet-index l.packets)))
    × (l.between ≡ gap (take l.packet-index l.packets))
    × All (λ packet. ReadsBack (engine_view packet)) (take l.packet-index l.packets)
