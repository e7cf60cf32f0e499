use Rattle.std.proofs.Common.{◌≡◌, ◌∙◌, ap, sym}
use Rattle.std.proofs.lemmas.Result.{IfOk-weaker}
use Rattle.aud_client.specs.StaySeen.{StaySeen}
use Rattle.aud_causes.specs.Refusals.{asked_causes, causes_of_asked, got_of}
use Rattle.aud_causes.proofs.refusal.stay_causes.Goals as goal

pub returns-in-Some : goal.returns-in-Some
returns-in-Some c =
    let asked_is = sym c.in-Some.is ∙ ap (λ (s : StaySeen). s.asked) c.stay.view_is in
    IfOk-weaker c.asked_causes.result
    (λ found. found.items ≡ asked_causes c.args.logs.now c.args.stays.now c.args.number c.in-Some.asked c.got_of.result.now)
    (λ found. found.items ≡ causes_of_asked c.args.logs.now c.args.stays.now c.args.number c.args.stay.now.asked (got_of c.args.stay.now.reply))
    (λ found is. is ∙ (λ i. causes_of_asked c.args.logs.now c.args.stays.now c.args.number (asked_is i) (c.got_of.ensures i)))
    c.asked_causes.ensures
