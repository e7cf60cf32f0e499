use Rattle.std.proofs.Common.{Bor, Option, is_some, subst, sym}
use Rattle.std.proofs.lemmas.Result.{IfOk-weaker}
use Rattle.aud_session_facts.specs.declared.account.Account.{Account}
use Rattle.aud_verdict.specs.declared.verdict.Verdict.TheVariants.{No}
use Rattle.aud_findings.specs.Also.{IsAlsoShown, others_seen}
use Rattle.aud_findings.proofs.also.also_found.Goals as goal

pub returns : goal.returns
returns c =
    let here = c.args.sheet.now.recording.now in
    let lines = c.args.sheet.now.lines.now in
    let pid = c.args.pid.now in
    IfOk-weaker c.also_by.result _ _ (λ also h.
    subst (λ verdict. IsAlsoShown here lines pid (is_some c.args.account) verdict (others_seen also)) (sym c.in-No.is)
    (subst (λ (o : Option (Bor Account)). IsAlsoShown here lines pid (is_some o) (No c.in-No.fault) (others_seen also)) (sym c.in-Some.is) h)) c.also_by.ensures
