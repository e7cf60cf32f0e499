use Rattle.std.proofs.Common.{◌≡◌, ◌∙◌, ◌∷◌, [], ℕ, List, ap, map, sym}
use Rattle.std.proofs.lemmas.Result.{IfOk-weaker}
use Rattle.aud_check.specs.Window.{positions_received}
use Rattle.aud_session_facts.specs.declared.account.Account.{Account}
use Rattle.aud_maker.specs.Made.{IsMade}
use Rattle.aud_causes.specs.AtBreak.{rooms_at_break}
use Rattle.aud_causes.specs.Delivery.{cause_if, held}
use Rattle.aud_causes.specs.Differences.{asked_past, case_of, lost_in}
use Rattle.aud_causes.specs.declared.cause.Cause.TheVariants.{LostLive}
use Rattle.aud_causes.specs.Leavable.{leave_missing}
use Rattle.aud_causes.proofs.ItemLemmas.{then_if}
use Rattle.aud_causes.proofs.delivery.lost_of.Goals as goal

pub returns : goal.returns
returns c =
    let cluster = c.args.recording.now in
    let a = c.args.account.now in
    let f = c.args.facts in
    let stays_are = c.as_slice-stays.ensures.value in
    let pid_is = c.as_str.ensures.value ∙ ap (λ (x : Account). x.cert.pid) c.account.view_is in
    let turns_are = c.as_slice.ensures.value ∙ ap (λ (x : Account). x.cert.turns) c.account.view_is in
    let spans_are = c.as_slice-2.ensures.value ∙ ap (λ (x : Account). x.cert.spans) c.account.view_is in
    let came_is = c.as_slice-3.ensures.value ∙ c.in_ok-came.ensures ∙ ap (λ ss. positions_received (map (λ stay. stay.now) ss)) stays_are in
    let due_is = c.as_slice-4.ensures.value ∙ ap (λ (x : Account). x.due.items) c.account.view_is in
    let past_is = c.asked_past.ensures ∙ (λ i. asked_past (due_is i) f) in
    let live_is = c.then_some.ensures ∙ then_if c.is_taken_live.result (LostLive f.parted.again) ∙ ap (λ b. cause_if b (LostLive f.parted.again)) c.is_taken_live.ensures in
    IfOk-weaker c.held.result
    (λ found. found.items ≡ held (c.in_ok-at_break.at_break ∷ c.skipped_in_window.result ∷ c.asked_past.result ∷ c.then_some.result ∷ c.in_ok-leave.leave ∷ []))
    (λ found. (made : IsMade cluster a.cert.pid a.cert) → (numbers : List ℕ) → found.items ≡ lost_in (case_of cluster a numbers made) f)
    (λ found is made numbers.
    let at_break = c.in_ok-at_break.ensures made ∙ ap (λ ss. rooms_at_break cluster made.who made.turns (map (λ stay. stay.now) ss) f) stays_are in
    let leave_is = c.in_ok-leave.ensures ∙ (λ i. leave_missing (c.logs.ensures i) ((pid_is ∙ sym made.names) i) (turns_are i) (spans_are i) (came_is i) f) in
    is ∙ (λ i. held (at_break i ∷ c.skipped_in_window.ensures i ∷ past_is i ∷ live_is i ∷ leave_is i ∷ [])))
    c.held.ensures
