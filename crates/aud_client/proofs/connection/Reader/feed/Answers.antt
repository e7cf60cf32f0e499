use Rattle.std.proofs.Common.{◌∷◌, [], refl, sym, ◌∙◌, subst, Some, None, Ok, Err, Option, append-nil}
use Rattle.aud_eio.specs.Packet.{engine_view}
use Rattle.aud_sio.specs.Message.{messages_of}
use Rattle.aud_sio.specs.Assembly.{Continues, answer_of, whole_view}
use Rattle.aud_sio.specs.declared.whole.Whole.{Whole}
use Rattle.aud_client.specs.Private.ConnectionRead.{Reads, packets_read}
use Rattle.std.proofs.lemmas.Result.{on_ok_weaker}
use Rattle.aud_client.proofs.ReadLemmas.{OnOk-two, Reads-by, bad_or-false}
use Rattle.aud_client.proofs.connection.Reader.feed.Goals as goal

pub returns-in-Ok-Some : goal.returns-in-Ok-Some
returns-in-Ok-Some c =
    let held = c.feed_with.new.self in
    let messages = messages_of (engine_view c.args.packet) in
    let given : Continues c.args.self.now.assembler messages (answer_of (Some c.in-Ok-Some.whole)) held =
    subst (λ (o : Option Whole). Continues c.args.self.now.assembler messages (answer_of o) held) c.in-Ok-Some.field-0-is c.in-Ok-Some.ensures.answers in
    on_ok_weaker c.place.result
    (λ packets. Reads-by c.args.number messages c.args.self.now c.place.new.self held (Ok (whole_view c.in-Ok-Some.whole) ∷ []) given c.place.ensures.assembler packets
    (c.place.ensures.bad ∙ sym (bad_or-false c.args.self.now.bad c.args.number)) c.in-Ok-Some.ensures.waits)
    c.place.ensures.packets

pub returns-in-Ok-None : goal.returns-in-Ok-None
returns-in-Ok-None c =
    let held = c.feed_with.new.self in
    let messages = messages_of (engine_view c.args.packet) in
    let given : Continues c.args.self.now.assembler messages (answer_of None) held =
    subst (λ (o : Option Whole). Continues c.args.self.now.assembler messages (answer_of o) held) c.in-Ok-None.field-0-is c.in-Ok-None.ensures.answers in
    Reads-by c.args.number messages c.args.self.now _ held [] given refl (sym (append-nil (packets_read c.args.self.now)))
    (sym (bad_or-false c.args.self.now.bad c.args.number)) c.in-Ok-None.ensures.waits

pub returns-in-Err : goal.returns-in-Err
returns-in-Err c =
    let held = c.feed_with.new.self in
    let messages = messages_of (engine_view c.args.packet) in
    OnOk-two c.refuse_packet.result _ _ (Reads c.args.number messages c.args.self.now c.refuse_packet.new.self)
    (λ memory bad. Reads-by c.args.number messages c.args.self.now c.refuse_packet.new.self held (Err c.in-Err.fault ∷ []) (c.in-Err.ensures.answers memory) c.refuse_packet.ensures.assembler
    (c.refuse_packet.ensures.packets ∙ sym (append-nil (packets_read c.args.self.now))) bad c.in-Err.ensures.waits)
    c.refuse_packet.ensures.memory c.refuse_packet.ensures.bad
