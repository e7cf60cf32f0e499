use Rattle.std.proofs.Common.{cond, sym, ap, ◌∙◌, Option, Some, None, is_some}
use Rattle.aud_sio.specs.Packet.{packet_view}
use Rattle.aud_client.specs.StaySeen.{AskedSeen, StaySeen}
use Rattle.aud_client.specs.declared.part.Part.TheVariants as part
use Rattle.aud_client.proofs.TellingPlaces.{asked_grown}
use Rattle.aud_client.proofs.stay.Stay.ask.Goals as goal

pub returns-in-Some-clause-stay : goal.returns-in-Some-clause-stay
returns-in-Some-clause-stay c = λ stream.
    ap (λ (s : StaySeen). record s { asked = Some c.in-Some.asked }) c.self.view_is
    ∙ asked_grown stream c.args.self.now (packet_view c.args.packet.now) (Some c.in-Some.asked) (sym (sym c.in-Some.is ∙ c.in_ok-asked.ensures))

pub returns-in-Some-clause-part : goal.returns-in-Some-clause-part
returns-in-Some-clause-part c = λ stream. ap (λ (o : Option AskedSeen). cond (is_some o) part.Ask part.Other) (sym c.in-Some.is ∙ c.in_ok-asked.ensures)

pub returns-in-None-clause-stay : goal.returns-in-None-clause-stay
returns-in-None-clause-stay c = λ stream.
    asked_grown stream c.args.self.now (packet_view c.args.packet.now) None (sym (sym c.in-None.is ∙ c.in_ok-asked.ensures))

pub returns-in-None-clause-part : goal.returns-in-None-clause-part
returns-in-None-clause-part c = λ stream. ap (λ (o : Option AskedSeen). cond (is_some o) part.Ask part.Other) (sym c.in-None.is ∙ c.in_ok-asked.ensures)
