use Rattle.std.proofs.Common.{◌≡◌, ◌-◌, ◌∙◌, ap, arith, map, option_map, option_copied, slice_get, sym}
use Rattle.std.proofs.lemmas.Grind.{common_steps}
use Rattle.std.proofs.lemmas.Option.{gets, slice_get-map}
use Rattle.aud_eio.specs.Packet.{engine_view}
use Rattle.aud_refusals.specs.NoPacket.{message_in}
use Rattle.aud_refusals.proofs.Records.{message-packets}
use Rattle.aud_refusals.proofs.payload.message_of.Goals as goal

pub returns : goal.returns
returns c =
    let packets = c.in-Some.packets.items in
    let given = sym (ap (option_map (λ packets. map engine_view packets.items)) c.in-Some.is) ∙ c.in_ok-packets.ensures in
    let got : option_copied c.get.result ≡ slice_get packets (c.args.number - 1) = grind (arith, common_steps, gets) in
    c.message_in.ensures
    ∙ ap message_in (ap (option_map engine_view) got ∙ sym (slice_get-map engine_view packets (c.args.number - 1)))
    ∙ message-packets c.args.rec.now c.args.number (map engine_view packets) given
