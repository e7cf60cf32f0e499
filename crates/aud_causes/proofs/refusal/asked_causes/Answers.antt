use Rattle.std.proofs.Common.{◌≡◌, ◌∙◌, ◌∷◌, [], ap}
use Rattle.std.proofs.lemmas.Result.{IfOk-weaker}
use Rattle.aud_client.specs.StaySeen.{AskedSeen}
use Rattle.aud_session_facts.specs.Marks.{turn_marks}
use Rattle.aud_causes.specs.Delivery.{held}
use Rattle.aud_causes.specs.Refusals.{asked_causes, asked_too_early, never_broken, node_ended, offset_cause, session_over, marks_before}
use Rattle.aud_causes.proofs.refusal.asked_causes.Goals as goal

pub returns : goal.returns
returns c =
    let logs = c.args.logs.now in
    let stays = c.args.stays.now in
    let number = c.args.number in
    let asked = c.args.asked.now in
    let pid_is = c.as_str-pid.ensures ∙ ap (λ (x : AskedSeen). x.pid) c.asked.view_is in
    let marks_are = c.in_ok-marks.ensures ∙ ap (turn_marks logs) pid_is in
    let before_are = c.marks_before-before.ensures ∙ (λ i. marks_before ((c.deref.ensures.value ∙ marks_are) i) stays number (pid_is i)) in
    let opening_are = c.deref-3.ensures.value ∙ c.in_ok-opening.ensures in
    let early_is = c.asked_too_early.ensures ∙ (λ i. asked_too_early logs ((c.deref-2.ensures.value ∙ marks_are) i) (opening_are i)) in
    let over_is = c.session_over.ensures ∙ ap session_over before_are in
    let ended_is = c.node_ended.ensures ∙ ap (node_ended logs) before_are in
    let never_is = c.never_broken.ensures ∙ ap never_broken before_are in
    IfOk-weaker c.held.result
    (λ found. found.items
    ≡ held (c.offset_cause.result ∷ c.session_over.result ∷ c.node_ended.result ∷ c.never_broken.result ∷ c.asked_too_early.result ∷ []))
    (λ found. found.items ≡ asked_causes logs stays number asked c.args.got.now)
    (λ found is. is ∙ (λ i. held (c.offset_cause.ensures i ∷ over_is i ∷ ended_is i ∷ never_is i ∷ early_is i ∷ [])))
    c.held.ensures
