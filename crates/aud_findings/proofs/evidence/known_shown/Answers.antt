use Rattle.std.proofs.Common.{◌∙◌, Bor, IfSome, Option, ap, is_some, subst, sym}
use Rattle.std.proofs.lemmas.Result.{IfOk-weaker}
use Rattle.aud_rows.specs.declared.client_places.ClientPlaces.{ClientPlaces}
use Rattle.aud_session_facts.specs.declared.account.Account.{Account}
use Rattle.aud_session_facts.specs.Account.{IsAccountOf, stays_of}
use Rattle.aud_findings.specs.Evidence.{IsOfClient}
use Rattle.aud_findings.specs.Private.Known.{found_rows}
use Rattle.aud_findings.proofs.Shown.{of_session}
use Rattle.aud_findings.proofs.evidence.known_shown.Goals as goal

pub returns-clause-shown : goal.returns-clause-shown
returns-clause-shown c =
    let here = c.args.sheet.now.recording.now in
    let lines = c.args.sheet.now.lines.now in
    let pid = c.args.pid.now in
    let a = c.in-Some.account.now in
    let own : IsAccountOf here pid a = subst (λ (o : Option (Bor Account)). IfSome o (λ (b : Bor Account). IsAccountOf here pid b.now)) c.in-Some.is c.requires.account in
    IfOk-weaker c.told_shown.result _ _ (λ found h.
    subst (λ (o : Option (Bor Account)). IsOfClient here lines pid (is_some o) c.args.fault.now (found_rows found)) (sym c.in-Some.is)
    (of_session here lines pid a.client (stays_of a) a.due.items own.is c.args.fault.now c.places.result.now.place
    (ap (λ (p : ClientPlaces). p.place) c.places.ensures ∙ c.in_ok-tap.ensures.place) found h)) c.told_shown.ensures.shown
