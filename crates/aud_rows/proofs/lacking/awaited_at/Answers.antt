use Rattle.std.proofs.Common.{◌≡◌, ◌∙◌, ap, flat_map, map, option_map, rules, sym}
use Rattle.aud_eio.specs.Packet.{engine_view}
use Rattle.aud_sio.specs.Message.{at, messages_of}
use Rattle.aud_rows.specs.Private.Awaited.{awaited}
use Rattle.aud_rows.proofs.LackingLemmas.{at-packets}
use Rattle.aud_rows.proofs.lacking.awaited_at.Goals as goal

pub loop-packet-init : goal.loop-packet-init
loop-packet-init c =
    let given = sym (ap (option_map (λ packets. map engine_view packets.items)) c.in-Some.is) ∙ c.in_ok-packets.ensures in
    let same : c.deref-packet-items.result.now ≡ c.in-Some.packets.items = search rules in
    ap (λ items. awaited c.args.last (at c.args.number (flat_map messages_of (map engine_view items)))) same
    ∙ sym (ap (awaited c.args.last) (at-packets c.args.number c.args.rec.now (map engine_view c.in-Some.packets.items) given))
