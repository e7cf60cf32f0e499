use Rattle.std.specs.Option.{option_copied}
use Rattle.std.specs.Result.{IfErr}
use Rattle.std.proofs.Common.{◌≡◌, true, map, length, sym, ap, subst, ◌∙◌}
use Rattle.std.proofs.lemmas.Result.{on_ok_weaker, IfOk-weaker, IfErr-weaker}
use Rattle.aud_rooms.specs.Turns.{Who}
use Rattle.aud_client.specs.Received.{stays_naming}
use Rattle.aud_check.specs.Faults.{Case, IsReceived}
use Rattle.aud_check.specs.Private.ReceivedCheck.{IsReceivedRefusal}
use Rattle.aud_check.specs.NamedStays.{are_of_session}
use Rattle.aud_check.proofs.ClientCase.{case_by_stays, client_refused, tells_named}
use Rattle.aud_check.proofs.client.check_client.Goals as goal

pub returns : goal.returns
returns c =
    let who = c.args.session.now in
    let told = c.in-Some.transcript in
    let answer = c.check_received.result in
    let own = ap (map (λ stay. stay.now)) c.as_slice-stays.ensures.value ∙ c.in_ok-named.ensures ∙ ap (λ (w : Who). stays_naming w.pid told.now.stays) c.session.view_is in
    let named = sym c.are_of_session.ensures ∙ c.if-not-are_of_session.false in
    let by = case_by_stays c.args.logs.now c.args.client.now who c.args.due.now c.received_by_stays.ensures told.now (sym (ap option_copied c.in-Some.is) ∙ c.requires.transcript) _ _ _ c.stream.ensures c.transcript.ensures own named in
    let is = subst (λ (case : Case). are_of_session who case.stays ≡ true) by named in
    record {
      named = on_ok_weaker answer (λ _. is) c.check_received.ensures.received;
      received = on_ok_weaker answer (subst IsReceived by) c.check_received.ensures.received;
      got = IfOk-weaker answer _ _ (λ got counted. counted ∙ ap (λ (case : Case). length case.frames) by) c.check_received.ensures.got;
      refused = IfErr-weaker answer _ _ (client_refused who _ is) (subst (λ (case : Case). IfErr answer (IsReceivedRefusal case)) by c.check_received.ensures.refused);
    }

pub check_received-requires-clause-altered : goal.check_received-requires-clause-altered
check_received-requires-clause-altered c =
    let told = c.in-Some.transcript in
    let own = ap (map (λ stay. stay.now)) c.as_slice-stays.ensures.value ∙ c.in_ok-named.ensures ∙ ap (λ (w : Who). stays_naming w.pid told.now.stays) c.session.view_is in
    tells_named c.args.logs.now c.args.client.now c.args.session.now.pid c.stays_tell_altered.ensures.naming told.now (sym (ap option_copied c.in-Some.is) ∙ c.requires.transcript) _ _ c.stream.ensures own
