use Rattle.std.proofs.Common.{rules, sym, ap, ◌∙◌, subst}
use Rattle.std.proofs.lemmas.Result.{IfOk-weaker, on_ok_weaker}
use Rattle.aud_client.specs.Seen.{packet_seen}
use Rattle.aud_client.specs.Private.Ahead.{IsFoundIn}
use Rattle.aud_client.specs.Private.Kept.{grown, part_of}
use Rattle.aud_client.proofs.KnownLemmas.{known_grown, known_part}
use Rattle.aud_client.proofs.stay.Stay.add.Goals as goal

pub keep_known-requires : goal.keep_known-requires
keep_known-requires c = λ here. subst (IsFoundIn c.args.stream.now) c.in-Known.is (c.requires here)

pub returns-in-Known-clause-stay : goal.returns-in-Known-clause-stay
returns-in-Known-clause-stay c =
    let stay = c.args.self.now in
    on_ok_weaker c.keep_known.result
    (λ kept.
    kept ∙ known_grown c.in-Known.known.event.now c.in-Known.known.sent_alone c.args.stream.now stay
    ∙ ap (λ p. grown c.args.stream.now stay (packet_seen p)) (sym c.in-Known.is))
    c.keep_known.ensures.stay

pub returns-in-Known-clause-part : goal.returns-in-Known-clause-part
returns-in-Known-clause-part c =
    IfOk-weaker c.keep_known.result _ _
    (λ it is.
    is ∙ known_part c.in-Known.known.event.now c.in-Known.known.sent_alone c.args.stream.now
    ∙ ap (λ p. part_of c.args.stream.now (packet_seen p)) (sym c.in-Known.is))
    c.keep_known.ensures.part

pub returns-in-FromClient-clause-stay : goal.returns-in-FromClient-clause-stay
returns-in-FromClient-clause-stay c = search (rules, c.ask.ensures.stay c.args.stream.now)

pub returns-in-FromClient-clause-part : goal.returns-in-FromClient-clause-part
returns-in-FromClient-clause-part c = search (rules, c.ask.ensures.part c.args.stream.now)
