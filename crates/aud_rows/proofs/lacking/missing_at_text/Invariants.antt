use Rattle.std.proofs.Common.{◌≡◌, drop, map, flat_map}
use Rattle.aud_eio.specs.Packet.{engine_view}
use Rattle.aud_sio.specs.Message.{messages_of}
use Rattle.aud_rows.specs.Lacking.{missing_at_text}
use Rattle.aud_rows.proofs.lacking.missing_at_text.Given as goal

-- those that came so far are no longer missing
abbrev pub invariant-loop-packet : goal.invariant-loop-packet
invariant-loop-packet l =
    missing_at_text l.left (flat_map messages_of (map engine_view (drop l.packet-index l.packets))) ≡ missing_at_text l.missing (flat_map messages_of (map engine_view l.packets))
