use Rattle.std.proofs.Common.{◌≡◌, ℕ, true, List, length, sym, ap, subst, ◌∙◌}
use Rattle.std.proofs.lemmas.List.Kept.{AllPairs-from_increasing}
use Rattle.std.proofs.lemmas.Result.{err_from_is_err_and}
use Rattle.aud_rooms.specs.Turns.{Who}
use Rattle.aud_rooms.specs.TurnsDue.{is_turn_due}
use Rattle.aud_rooms.proofs.Ascending.{filter-ascends}
use Rattle.aud_cert.specs.Certificate.{CertificateSeen}
use Rattle.aud_check.specs.Difference.{IsAscending}
use Rattle.aud_check.specs.Private.ClientCheck.{IsClientRefusal}
use Rattle.aud_check.specs.Faults.{Case, IsReceived}
use Rattle.aud_check.specs.NamedStays.{are_of_session}
use Rattle.aud_check.specs.Refusals.{certificate_case}
use Rattle.aud_check.specs.Shown.{slices_at}
use Rattle.aud_check.proofs.Judged.{client_first, turns_same, due_same, case_same, tail_is}
use Rattle.aud_check.proofs.certificate.check_delivery.Goals as goal

pub shown_due-requires-clause-accepted : goal.shown_due-requires-clause-accepted
shown_due-requires-clause-accepted c =
    let turns_are = c.as_slice.ensures.value ∙ ap (λ (x : CertificateSeen). x.turns) c.cert.view_is in
    let same = turns_same c.args.recording.now c.args.cert.now c.logs-logs.ensures c.session_of-session.ensures turns_are in
    subst (λ (X : Type 0). X) (sym same) c.requires.accepted_turns

pub check_client-requires-clause-ascending : goal.check_client-requires-clause-ascending
check_client-requires-clause-ascending c =
    let stream = c.logs-logs.result.now.stream in
    subst IsAscending (sym (c.as_slice-3.ensures.value ∙ c.in_ok-due.ensures))
    (AllPairs-from_increasing _ (filter-ascends (is_turn_due stream c.session_of-session.result (slices_at c.logs-logs.result.now c.as_slice.result.now)) 1 (length stream)))

pub returns-in_err-got-clause-refused : goal.returns-in_err-got-clause-refused
returns-in_err-got-clause-refused c =
    let C = c.args.recording.now in
    let cert = c.args.cert.now in
    let p = err_from_is_err_and c.from_residual-in_err-got.result c.from_residual-in_err-got.ensures.1 in
    let refusal = c.in_err-got.field-0.0 in
    let who = c.session_of-session.result in
    let who_is = c.session_of-session.ensures in
    let turns_are = c.as_slice.ensures.value ∙ ap (λ (x : CertificateSeen). x.turns) c.cert.view_is in
    let same = case_same C cert c.logs-logs.ensures who_is turns_are (ap (λ (x : CertificateSeen). x.client) c.cert.view_is) (c.as_slice-3.ensures.value ∙ c.in_ok-due.ensures) in
    rw p.1
    (rw p.2
    (client_first C cert c.requires.accepted_turns c.requires.own_spans refusal
    (subst (λ (w : Who). IsClientRefusal w (certificate_case C cert) refusal) who_is (subst (λ (case : Case). IsClientRefusal who case refusal) same c.in_err-got.ensures.refused))))

pub returns-clause-accepted : goal.returns-clause-accepted
returns-clause-accepted c =
    let C = c.args.recording.now in
    let cert = c.args.cert.now in
    let who = c.session_of-session.result in
    let who_is = c.session_of-session.ensures in
    let turns_are = c.as_slice.ensures.value ∙ ap (λ (x : CertificateSeen). x.turns) c.cert.view_is in
    let same = case_same C cert c.logs-logs.ensures who_is turns_are (ap (λ (x : CertificateSeen). x.client) c.cert.view_is) (c.as_slice-3.ensures.value ∙ c.in_ok-due.ensures) in
    record {
      are_turns = c.requires.accepted_turns;
      are_spans = c.requires.own_spans;
      are_named = subst (λ (w : Who). are_of_session w (certificate_case C cert).stays ≡ true) who_is (subst (λ (case : Case). are_of_session who case.stays ≡ true) same c.in_ok-got.ensures.named);
      is_received = subst IsReceived same c.in_ok-got.ensures.received;
    }

pub returns-clause-tail : goal.returns-clause-tail
returns-clause-tail c =
    let turns_are = c.as_slice.ensures.value ∙ ap (λ (x : CertificateSeen). x.turns) c.cert.view_is in
    let received = c.in_ok-got.ensures.received in
    let due_is = c.as_slice-3.ensures.value ∙ c.in_ok-due.ensures in
    tail_is _ c.in_ok-got.got c.len.result received c.in_ok-got.ensures.got (c.len.ensures ∙ sym c.as_slice-3.ensures.len)
    ∙ ap (λ (ps : List ℕ). length ps) (due_same c.args.recording.now c.args.cert.now c.logs-logs.ensures c.session_of-session.ensures turns_are due_is)
