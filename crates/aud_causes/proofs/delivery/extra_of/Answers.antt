use Rattle.std.proofs.Common.{◌≡◌, ◌∙◌, ◌∷◌, [], ℕ, List, ap, map, option_map, subst, sym}
use Rattle.std.proofs.lemmas.Result.{IfOk-weaker}
use Rattle.std.specs.Option.{option_or}
use Rattle.aud_cert.specs.Certificate.{turn_at}
use Rattle.aud_check.specs.Window.{positions_received}
use Rattle.aud_session_facts.specs.declared.account.Account.{Account}
use Rattle.aud_maker.specs.Made.{IsMade}
use Rattle.aud_session_facts.specs.NotDue.{reason_of, why_not_due}
use Rattle.aud_causes.specs.AtBreak.{rooms_at_break}
use Rattle.aud_causes.specs.Behind.{node_behind}
use Rattle.aud_causes.specs.Delivery.{held}
use Rattle.aud_causes.specs.Differences.{case_of, extra_in, other_session_before}
use Rattle.aud_causes.specs.Extra.{before_birth, change_missing, extra_live, late_leave, log_ended_early, sent_after_end}
use Rattle.aud_causes.proofs.delivery.extra_of.Goals as goal

pub returns : goal.returns
returns c =
    let cluster = c.args.recording.now in
    let a = c.args.account.now in
    let f = c.args.facts in
    let why = option_map reason_of c.why_not_due-why.result in
    let told : (made : IsMade cluster a.cert.pid a.cert) → why ≡ why_not_due cluster made.who made.turns c.args.position =
    subst (λ l. (made : IsMade l a.cert.pid a.cert) → why ≡ why_not_due l made.who made.turns c.args.position) c.logs-logs.ensures c.why_not_due-why.ensures.why in
    let stays_are = c.as_slice-stays.ensures.value in
    let turns_are = c.as_slice-turns.ensures.value ∙ ap (λ (x : Account). x.cert.turns) c.account.view_is in
    let spans_are = c.as_slice.ensures.value ∙ ap (λ (x : Account). x.cert.spans) c.account.view_is in
    let came_is = c.as_slice-2.ensures.value ∙ c.in_ok-came.ensures ∙ ap (λ ss. positions_received (map (λ stay. stay.now) ss)) stays_are in
    let due_is = c.as_slice-3.ensures.value ∙ ap (λ (x : Account). x.due.items) c.account.view_is in
    let logs_are = c.logs-logs.ensures in
    let behind_is = c.node_behind-behind.ensures ∙ (λ i. node_behind (logs_are i) (turns_are i) f) in
    IfOk-weaker c.held.result
    (λ found. found.items
    ≡ held
    (c.node_behind-behind.result ∷ c.in_ok-at_break.at_break ∷ c.other_session_before.result ∷ c.log_ended_early.result ∷ c.sent_after_end.result
    ∷ c.late_leave-left.result ∷ c.before_birth.result ∷ c.extra_live.result ∷ c.in_ok-missing.missing ∷ []))
    (λ found. (made : IsMade cluster a.cert.pid a.cert) → (numbers : List ℕ) → found.items ≡ extra_in (case_of cluster a numbers made) f c.args.position)
    (λ found is made numbers.
    let pid_is = c.as_str-pid.ensures.value ∙ ap (λ (x : Account). x.cert.pid) c.account.view_is ∙ sym made.names in
    let at_break = c.in_ok-at_break.ensures made ∙ ap (λ ss. rooms_at_break cluster made.who made.turns (map (λ stay. stay.now) ss) f) stays_are in
    let missing_is = c.in_ok-missing.ensures ∙ (λ i. change_missing (c.logs-logs.ensures i) (pid_is i) (turns_are i) (spans_are i) (came_is i) (told made i) f) in
    let left_is = c.late_leave-left.ensures ∙ (λ i. late_leave (logs_are i) (pid_is i) (map (turn_at (logs_are i)) (turns_are i)) f.parted.position (told made i)) in
    let other_is = c.other_session_before.ensures ∙ (λ i. other_session_before (due_is i) f) in
    let early_is = c.log_ended_early.ensures ∙ (λ i. log_ended_early (logs_are i) (pid_is i) (turns_are i) (told made i)) in
    let end_is = c.sent_after_end.ensures ∙ (λ i. sent_after_end (logs_are i) (pid_is i) (turns_are i) (told made i) f) in
    let birth_is = c.before_birth.ensures ∙ (λ i. before_birth (logs_are i) (turns_are i) (told made i)) in
    let live_is = c.extra_live.ensures ∙ (λ i. extra_live ((c.or.ensures ∙ (λ j. option_or (behind_is j) (left_is j))) i) (told made i) f) in
    is
    ∙ (λ i.
    held
    (behind_is i ∷ at_break i ∷ other_is i ∷ early_is i ∷ end_is i ∷ left_is i ∷ birth_is i ∷ live_is i ∷ missing_is i ∷ [])))
    c.held.ensures
