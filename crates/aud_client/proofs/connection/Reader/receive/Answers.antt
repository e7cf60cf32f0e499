use Rattle.std.proofs.Common.{◌∷◌, [], refl, sym, ◌∙◌, subst, List, Ok}
use Rattle.std.proofs.lemmas.Result.{on_ok_weaker}
use Rattle.aud_eio.specs.Packet.{engine_view}
use Rattle.aud_sio.specs.Message.{Message, messages_of}
use Rattle.aud_sio.specs.Assembly.{Continues}
use Rattle.aud_node.specs.Known.{spelled}
use Rattle.aud_client.proofs.KnownLemmas.{known_continues}
use Rattle.aud_client.proofs.ReadLemmas.{Reads-by, bad_or-false}
use Rattle.aud_client.proofs.connection.Reader.receive.Goals as goal

pub returns-in-Some : goal.returns-in-Some
returns-in-Some c =
    let event = c.in-Some.known.event.now in
    let messages = messages_of (engine_view c.args.packet) in
    let answers = Ok (spelled event.text) ∷ [] in
    let rest = c.in-Some.ensures.rest in
    let given : Continues c.args.self.now.assembler messages answers [] =
    subst (λ (held : List Message). Continues held messages answers []) (sym rest)
    (subst (λ (ms : List Message). Continues [] ms answers []) (sym c.in-Some.ensures.text) (known_continues event c.in-Some.known.sent_alone)) in
    on_ok_weaker c.place.result
    (λ packets. Reads-by c.args.number messages c.args.self.now c.place.new.self [] answers given (c.place.ensures.assembler ∙ rest) packets
    (c.place.ensures.bad ∙ sym (bad_or-false c.args.self.now.bad c.args.number)) refl)
    c.place.ensures.packets
