use Rattle.std.proofs.Common.{◌≡◌, ◌∙◌, ap, map, option_map, rules, sym}
use Rattle.aud_eio.specs.Packet.{engine_view}
use Rattle.aud_refusals.specs.NoPacket.{engine_refusal, packet_messages, texts_of}
use Rattle.aud_refusals.specs.Private.Fed.{refusal_to, refused_to}
use Rattle.aud_refusals.proofs.Records.{found-is, refused-packets, refused-texts}
use Rattle.aud_refusals.proofs.record.refusal_of.Goals as goal

pub returns-in-Some : goal.returns-in-Some
returns-in-Some c =
    let packets = map engine_view c.in-Some.packets.items in
    let given = sym (ap (option_map (λ packets. map engine_view packets.items)) c.in-Some.is) ∙ c.in_ok-packets.ensures in
    found-is c.socket_refusal.result (refusal_to c.args.assembler (packet_messages 1 packets)) (refused_to c.args.assembler c.args.rec.now) (refused-packets c.args.assembler c.args.rec.now packets given) c.socket_refusal.ensures

pub returns-in_ok-texts_of-in-None : goal.returns-in_ok-texts_of-in-None
returns-in_ok-texts_of-in-None c =
    let texts : map (λ text. text.now) c.as_slice.result.now ≡ texts_of c.args.rec.now = search rules in
    let none = sym (ap (option_map (λ packets. map engine_view packets.items)) c.in-None.is) ∙ c.in_ok-packets.ensures in
    found-is c.engine_refusal.result (engine_refusal 1 (texts_of c.args.rec.now)) (refused_to c.args.assembler c.args.rec.now) (refused-texts c.args.assembler c.args.rec.now none)
    (found-is c.engine_refusal.result _ (engine_refusal 1 (texts_of c.args.rec.now)) (ap (engine_refusal 1) texts) c.engine_refusal.ensures)
