use Rattle.std.proofs.lemmas.Result.{IfOk-weaker}
use Rattle.aud_findings.proofs.AllOf.{all_also, all_undue}
use Rattle.aud_findings.proofs.others.others.Goals as goal

pub returns-in-Extra : goal.returns-in-Extra
returns-in-Extra c =
    IfOk-weaker c.among.result _ _ (λ found. all_undue c.args.received.now c.args.due.now found.items c.args.difference _ _ c.in-Extra.is) c.among.ensures

pub returns-in_default : goal.returns-in_default
returns-in_default c =
    IfOk-weaker c.among-in_default.result _ _ (λ found. all_also c.args.received.now c.args.due.now found.items c.args.difference c.in_default.not-Extra) c.among-in_default.ensures
