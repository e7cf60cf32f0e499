use Rattle.std.proofs.Common.{Bor, ◌≡◌, ◌∙◌, ap, map, slice_get}
use Rattle.std.proofs.lemmas.Result.{IfOk-weaker}
use Rattle.aud_client.specs.declared.stay.Stay.{Stay}
use Rattle.aud_check.specs.Window.{positions_received}
use Rattle.aud_rows.specs.Seen.{row_seen}
use Rattle.aud_session_facts.specs.Account.{stays_of}
use Rattle.aud_findings.specs.Received.{tail_positions}
use Rattle.aud_findings.proofs.ByAccount.{tail_told}
use Rattle.aud_findings.proofs.tail.tail_shown.Goals as goal

pub returns-clause-shown : goal.returns-clause-shown
returns-clause-shown c pid known =
    let a = c.args.account.now in
    let received = c.as_slice-received.result.now in
    let received_is : received ≡ positions_received (stays_of a) =
    c.as_slice-received.ensures.value ∙ c.in_ok-got.ensures ∙ ap (λ (stays : _). positions_received (map (λ (stay : Bor Stay). stay.now) stays)) c.as_slice.ensures.value in
    IfOk-weaker c.tail_rows.result _ _ (λ rows.
    tail_told pid a c.args.session.now known received _ received_is
    (c.copied.ensures ∙ c.first.ensures.value ∙ ap (λ xs. slice_get xs 0) (c.deref.ensures.value ∙ c.in_ok-tail.ensures ∙ ap (tail_positions received) c.as_slice-2.ensures.value))
    (map row_seen rows.items)) c.tail_rows.ensures.rows
