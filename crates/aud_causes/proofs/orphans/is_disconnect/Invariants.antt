use Rattle.std.proofs.Common.{◌≡◌, drop, map}
use Rattle.std.specs.List.{list_any}
use Rattle.aud_eio.specs.Packet.{engine_view}
use Rattle.aud_causes.specs.Orphans.{carries_disconnect}
use Rattle.aud_causes.proofs.orphans.is_disconnect.Given as goal

-- what is to come gives it
abbrev pub invariant-loop-packet : goal.invariant-loop-packet
invariant-loop-packet l =
    list_any (carries_disconnect l.nsp) (map engine_view (drop l.packet-index l.packets)) ≡ list_any (carries_disconnect l.nsp) (map engine_view l.packets)
