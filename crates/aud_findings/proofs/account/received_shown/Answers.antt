use Rattle.std.proofs.Common.{◌≡◌, ◌∙◌, Bor, IfSome, Option, ap, length, map, subst, sym}
use Rattle.aud_client.specs.declared.stay.Stay.{Stay}
use Rattle.aud_check.specs.Window.{positions_received}
use Rattle.aud_session_facts.specs.declared.account.Account.{Account}
use Rattle.aud_session_facts.specs.Account.{IsAccountOf, difference_found, stays_of}
use Rattle.aud_verdict.specs.Session.{own_stays, due_to}
use Rattle.aud_findings.specs.Received.{AreFigures}
use Rattle.aud_findings.specs.Private.Known.{IsWithin}
use Rattle.aud_findings.proofs.ByAccount.{found_within, own_found}
use Rattle.aud_findings.proofs.account.received_shown.Goals as goal

pub returns : goal.returns
returns c k pid account =
    let a = c.in-Some.account.now in
    let own : IsAccountOf k pid a = subst (λ (o : Option (Bor Account)). IfSome o (λ (b : Bor Account). IsAccountOf k pid b.now)) c.in-Some.is account in
    let s = own.is.session in
    let received : c.deref.result.now ≡ positions_received (stays_of a) =
    c.deref.ensures.value ∙ c.in_ok-received.ensures ∙ ap (λ (stays : _). positions_received (map (λ (stay : Bor Stay). stay.now) stays)) c.as_slice.ensures.value in
    let got : c.deref.result.now ≡ positions_received (own_stays k s) = received ∙ ap positions_received own.is.stays_are in
    let owed : c.deref-2.result.now ≡ due_to k s = c.deref-2.ensures.value ∙ own.is.due_is in
    let within : IsWithin (length c.deref.result.now) c.difference.result =
    subst (IsWithin (length c.deref.result.now)) (sym c.difference.ensures)
    (subst (λ positions. IsWithin (length positions) (difference_found a.found)) (sym received) (found_within k pid a own)) in
    record {
      session = s;
      is_session = own.is.is_session;
      found = a.found;
      is_found = own_found k pid a own;
      are_figures = subst (λ figures. figures) (λ i. AreFigures (got i) (owed i) (c.difference.ensures i) c.figures.result) (c.figures.ensures within);
    }
