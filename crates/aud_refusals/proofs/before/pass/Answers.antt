use Rattle.std.proofs.Common.{◌∙◌, ap, map, option_map, sym}
use Rattle.aud_eio.specs.Packet.{engine_view}
use Rattle.aud_refusals.proofs.Feeding.{OnOk-packets, Passes-none}
use Rattle.aud_refusals.proofs.before.pass.Goals as goal

pub returns-in-Some : goal.returns-in-Some
returns-in-Some c =
    let given = sym (ap (option_map (λ packets. map engine_view packets.items)) c.in-Some.is) ∙ c.in_ok-packets.ensures in
    OnOk-packets c.pass_packets.result c.args.rec.now (map engine_view c.in-Some.packets.items) c.args.assembler.now c.pass_packets.new.assembler given c.pass_packets.ensures

pub returns-in-None : goal.returns-in-None
returns-in-None c = Passes-none c.args.assembler.now c.args.rec.now (sym (ap (option_map (λ packets. map engine_view packets.items)) c.in-None.is) ∙ c.in_ok-packets.ensures)
