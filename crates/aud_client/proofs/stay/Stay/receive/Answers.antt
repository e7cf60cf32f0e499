use Rattle.std.proofs.Common.{cond, sym, ap, ◌∙◌, Option, Some, is_some}
use Rattle.std.proofs.lemmas.Result.{IfOk-weaker, on_ok_weaker}
use Rattle.aud_sio.specs.Assembly.{whole_view}
use Rattle.aud_client.specs.TapPackets.{FromServer}
use Rattle.aud_client.specs.Replies.{ReplySeen}
use Rattle.aud_client.specs.StaySeen.{StaySeen, frame_of}
use Rattle.aud_client.specs.declared.part.Part.TheVariants as part
use Rattle.aud_client.proofs.TellingPlaces.{framed_grown, replied_grown}
use Rattle.aud_client.specs.Private.Kept.{frame_part}
use Rattle.aud_client.proofs.stay.Stay.receive.Goals as goal

pub returns-in-Some-clause-stay : goal.returns-in-Some-clause-stay
returns-in-Some-clause-stay c =
    ap (λ (s : StaySeen). record s { reply = Some c.in-Some.reply }) c.self.view_is
    ∙ replied_grown c.args.stream.now c.args.self.now (whole_view c.args.whole) c.in-Some.reply (sym (sym c.in-Some.is ∙ c.in_ok-reply.ensures))

pub returns-in-Some-clause-part : goal.returns-in-Some-clause-part
returns-in-Some-clause-part c =
    ap (λ (o : Option ReplySeen). cond (is_some o) part.Reply (cond (is_some (frame_of c.args.stream.now (FromServer (whole_view c.args.whole)))) part.Frame part.Other))
    (sym c.in-Some.is ∙ c.in_ok-reply.ensures)

pub returns-in-None-clause-stay : goal.returns-in-None-clause-stay
returns-in-None-clause-stay c =
    on_ok_weaker c.keep_decoded.result
    (λ kept. kept ∙ framed_grown c.args.stream.now c.args.self.now (whole_view c.args.whole) (sym (sym c.in-None.is ∙ c.in_ok-reply.ensures)))
    c.keep_decoded.ensures.stay

pub returns-in-None-clause-part : goal.returns-in-None-clause-part
returns-in-None-clause-part c =
    let frame = frame_of c.args.stream.now (FromServer (whole_view c.args.whole)) in
    IfOk-weaker c.keep_decoded.result _ _
    (λ it is. is ∙ ap (λ (o : Option ReplySeen). cond (is_some o) part.Reply (frame_part frame)) (sym c.in-None.is ∙ c.in_ok-reply.ensures))
    c.keep_decoded.ensures.part
