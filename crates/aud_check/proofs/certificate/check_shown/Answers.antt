use Rattle.std.proofs.Common.{sym, ap, subst, ◌∙◌, true≢false}
use Rattle.std.proofs.lemmas.Result.{err_from_is_err_and}
use Rattle.aud_rooms.specs.Turns.{Who}
use Rattle.aud_cert.specs.Certificate.{CertificateSeen}
use Rattle.aud_check.specs.TurnRefusals.{AreTurnsAccepted}
use Rattle.aud_check.proofs.Judged.{turns_first, turns_same, first_same, spans_same}
use Rattle.aud_check.proofs.Ranks.{first_span}
use Rattle.aud_check.proofs.certificate.check_shown.Goals as goal

pub returns-in_err-check_turns-clause-refused : goal.returns-in_err-check_turns-clause-refused
returns-in_err-check_turns-clause-refused c =
    let C = c.args.recording.now in
    let cert = c.args.cert.now in
    let p = err_from_is_err_and c.from_residual.result c.from_residual.ensures.1 in
    let refusal = c.in_err-check_turns.field-0.0 in
    let turns_are = c.as_slice-turns.ensures.value ∙ ap (λ (x : CertificateSeen). x.turns) c.cert.view_is in
    let same = first_same C cert c.logs-logs.ensures (c.session.view_is ∙ c.session_of-session.ensures) turns_are refusal in
    rw p.1 (rw p.2 (turns_first C cert refusal (subst (λ (X : Type 0). X) same c.in_err-check_turns.ensures.refused)))

pub are_spans-requires-clause-accepted : goal.are_spans-requires-clause-accepted
are_spans-requires-clause-accepted c =
    subst (λ (w : Who). AreTurnsAccepted c.logs-logs.result.now w.pid c.as_slice-turns.result.now) c.session.view_is c.in_ok-check_turns.ensures.accepted

pub returns-then-not-branch-clause-refused : goal.returns-then-not-branch-clause-refused
returns-then-not-branch-clause-refused c =
    let C = c.args.recording.now in
    let cert = c.args.cert.now in
    let turns_are = c.as_slice-turns.ensures.value ∙ ap (λ (x : CertificateSeen). x.turns) c.cert.view_is in
    let spans_are = c.as_slice.ensures.value ∙ ap (λ (x : CertificateSeen). x.spans) c.cert.view_is in
    let accepted = turns_same C cert c.logs-logs.ensures (c.session.view_is ∙ c.session_of-session.ensures) turns_are in
    let same = spans_same C cert c.logs-logs.ensures c.session_of-session.ensures turns_are spans_are in
    first_span C cert (subst (λ (X : Type 0). X) accepted c.in_ok-check_turns.ensures.accepted)
    (λ are. true≢false (sym (c.in_ok-are_spans.ensures.1 (subst (λ (X : Type 0). X) (sym same) are)) ∙ c.if-not-branch.true))

pub returns-clause-turns : goal.returns-clause-turns
returns-clause-turns c =
    let turns_are = c.as_slice-turns.ensures.value ∙ ap (λ (x : CertificateSeen). x.turns) c.cert.view_is in
    let same = turns_same c.args.recording.now c.args.cert.now c.logs-logs.ensures (c.session.view_is ∙ c.session_of-session.ensures) turns_are in
    subst (λ (X : Type 0). X) same c.in_ok-check_turns.ensures.accepted
