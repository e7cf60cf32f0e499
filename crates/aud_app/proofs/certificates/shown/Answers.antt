use Rattle.std.proofs.Common.{subst, ◌∙◌}
use Rattle.aud_check.specs.declared.certificate.Accepted.{Accepted}
use Rattle.aud_verdict.specs.Judged.{IsJudgedBy}
use Rattle.aud_app.proofs.certificates.shown.Goals as goal

pub returns-in_ok-new-in-Ok : goal.returns-in_ok-new-in-Ok
returns-in_ok-new-in-Ok c =
    let judged = subst (IsJudgedBy c.args.recording.now c.args.cert.now) c.in-Yes.is c.in_ok-judge_made.ensures in
    let counts : Accepted = record { got = c.in-Yes.got; tail = c.in-Yes.tail; turns = c.in-Yes.turns } in
    (c.args.cert.now, counts, judged, c.in_ok-new-in-Ok.ensures ∙ c.as_str.ensures.value ∙ c.in-Ok.ensures.written)
