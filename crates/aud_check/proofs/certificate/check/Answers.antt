use Rattle.std.proofs.Common.{◌≡◌, ◌+◌, List, length, sym, ap, ◌∙◌}
use Rattle.std.proofs.lemmas.Result.{err_from_is_err_and, on_ok_weaker, IfOk-weaker, IfErr-weaker}
use Rattle.aud_merge.specs.declared.step.Step.{Step}
use Rattle.aud_merge.specs.Runs.{IsRun}
use Rattle.aud_merge.specs.Due.{due}
use Rattle.aud_merge.specs.ByTurns.{IsPrefixOf}
use Rattle.aud_rooms.specs.Turns.{IsChain}
use Rattle.aud_check.specs.declared.certificate.Accepted.{Accepted}
use Rattle.aud_check.specs.declared.refusal.Refusal.{Refusal}
use Rattle.aud_check.specs.Faults.{positions_in}
use Rattle.aud_check.specs.Shown.{shown_due, turns_of, who_of}
use Rattle.aud_check.specs.Refusals.{IsAccepted, IsFirstRefusal, IsMismatch, certificate_case}
use Rattle.aud_check.proofs.AcceptedTurns.{all_accepted, are_turns}
use Rattle.aud_check.proofs.Headline.{first_of_all, in_every_run, in_no_run}
use Rattle.aud_check.proofs.Ranks.{nothing_refuses}
use Rattle.aud_check.proofs.certificate.check.Goals as goal

pub returns-in_err-check_shown : goal.returns-in_err-check_shown
returns-in_err-check_shown c =
    let C = c.args.recording.now in
    let cert = c.args.cert.now in
    let p = err_from_is_err_and c.from_residual.result c.from_residual.ensures.1 in
    let refusal = c.in_err-check_shown.field-0.0 in
    let first = c.in_err-check_shown.ensures.refused in
    rw p.1 (record {
      accepted = tt;
      not_refused = tt;
      refused = rw p.2 first;
      got = tt;
      tail = tt;
      turns = tt;
      are_turns = tt;
      in_every_run = tt;
      frames_are_entries = tt;
      counts_in_every_run = tt;
      in_no_run = rw p.2 (λ about. in_no_run C cert refusal (first_of_all C cert refusal about first) about c.due_by_turns.ensures.all);
    })

pub returns : goal.returns
returns c =
    let C = c.args.recording.now in
    let cert = c.args.cert.now in
    let result = c.check_delivery.result in
    let accepted = c.check_delivery.ensures.accepted in
    record {
      accepted = accepted;
      not_refused = on_ok_weaker result (nothing_refuses C cert) accepted;
      refused = c.check_delivery.ensures.refused;
      got = c.check_delivery.ensures.got;
      tail = c.check_delivery.ensures.tail;
      turns = c.check_delivery.ensures.turns;
      are_turns =
          on_ok_weaker result
          (λ (is : IsAccepted C cert). are_turns C cert c.requires.over (all_accepted C cert.pid cert.turns is.are_turns)) accepted;
      in_every_run =
          on_ok_weaker result
          (λ (is : IsAccepted C cert). in_every_run C cert c.due_by_turns.ensures.prefix c.requires.over is.are_turns is.is_received.is_prefix) accepted;
      frames_are_entries =
          on_ok_weaker result
          (λ (is : IsAccepted C cert). is.is_received.are_entries) accepted;
      counts_in_every_run =
          IfOk-weaker result (λ (a : Accepted). a.got + a.tail ≡ length (shown_due C cert))
          (λ (a : Accepted). IsChain C (who_of cert) (turns_of C cert) → (run : List Step) → IsRun C run → a.got + a.tail ≡ length (due C run cert.pid))
          (λ a all chain run is. all ∙ sym (ap length (c.due_by_turns.ensures.all C run (who_of cert) (turns_of C cert) is chain))) c.check_delivery.ensures.tail;
      in_no_run =
          IfErr-weaker result (IsFirstRefusal C cert)
          (λ (refusal : Refusal). IsMismatch refusal → IsChain C (who_of cert) (turns_of C cert) → (run : List Step) → IsRun C run → IsPrefixOf (positions_in (certificate_case C cert)) (due C run cert.pid) → ⊥)
          (λ refusal first about. in_no_run C cert refusal (first_of_all C cert refusal about first) about c.due_by_turns.ensures.all) c.check_delivery.ensures.refused;
    }
