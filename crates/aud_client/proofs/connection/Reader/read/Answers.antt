use Rattle.std.proofs.Common.{[], ◌∷◌, ap, sym, ◌∙◌, refl, Ok}
use Rattle.aud_eio.specs.Packet as eio
use Rattle.aud_eio.specs.Packet.{engine_packet_of, engine_view}
use Rattle.aud_eio.specs.Body.{engine_packets_of}
use Rattle.aud_tap.specs.declared.records.ClientRec.TheVariants.{TextIn, BytesIn, Poll}
use Rattle.aud_client.specs.TapPackets.{one_of}
use Rattle.std.proofs.lemmas.Result.{on_ok_weaker}
use Rattle.aud_client.proofs.ReadLemmas.{OnOk-server, Reads-one}
use Rattle.aud_client.proofs.connection.Reader.read.Goals as goal

pub returns-in-TextIn : goal.returns-in-TextIn
returns-in-TextIn c =
    OnOk-server c.read_text.result c.args.number c.args.rec.now (TextIn c.in-TextIn.t) (one_of (engine_packet_of c.as_str.result.now)) c.args.self.now c.read_text.new.self
    c.in-TextIn.is (ap (λ t. one_of (engine_packet_of t)) (sym c.as_str.ensures)) (λ _. refl) c.read_text.ensures

pub returns-in-BytesIn : goal.returns-in-BytesIn
returns-in-BytesIn c =
    let packet = engine_view c.decode_binary.result in
    OnOk-server c.receive.result c.args.number c.args.rec.now (BytesIn c.in-BytesIn.b) (Ok (packet ∷ [])) c.args.self.now c.receive.new.self
    c.in-BytesIn.is (ap (λ p. Ok (p ∷ [])) (sym (c.decode_binary.ensures ∙ ap eio.Lent c.as_slice.ensures))) (λ _. refl)
    (on_ok_weaker c.receive.result (Reads-one c.args.number packet c.args.self.now c.receive.new.self) c.receive.ensures)

pub returns-in-Poll : goal.returns-in-Poll
returns-in-Poll c =
    OnOk-server c.read_body.result c.args.number c.args.rec.now (Poll c.in-Poll.t) (engine_packets_of c.as_str-in-Poll.result.now) c.args.self.now c.read_body.new.self
    c.in-Poll.is (ap engine_packets_of (sym c.as_str-in-Poll.ensures)) (λ _. refl) c.read_body.ensures
