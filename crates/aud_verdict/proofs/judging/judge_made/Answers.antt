use Rattle.std.proofs.Common.{false}
use Rattle.aud_verdict.specs.declared.verdict.Verdict.TheVariants.{Yes}
use Rattle.aud_verdict.proofs.Made.{first_refusal, of_session, turns_accepted, spans_accepted}
use Rattle.aud_verdict.proofs.judging.judge_made.Goals as goal

pub returns-in-Ok : goal.returns-in-Ok
returns-in-Ok c =
    let answer = c.in-Ok.ensures in
    let counts = c.in-Ok.counts in
    let cert = c.args.cert.now in
    let yes = c.verdict_by_certificate.ensures.accepted c.args.recording.now cert.pid cert counts.got counts.tail counts.turns c.named_once.ensures c.requires
    answer.accepted answer.got answer.tail answer.turns in
    (c.requires, answer.accepted, yes, c.verdict_in_every_run.ensures.all c.args.recording.now false cert.pid (Yes counts.got counts.tail counts.turns) yes)

pub check_delivery-requires-clause-over : goal.check_delivery-requires-clause-over
check_delivery-requires-clause-over c =
    let cert = c.args.cert.now in
    c.made_is_over.ensures.over c.args.recording.now cert.pid cert c.named_once.ensures c.requires

pub check_delivery-requires-clause-accepted_turns : goal.check_delivery-requires-clause-accepted_turns
check_delivery-requires-clause-accepted_turns c = turns_accepted c.args.recording.now c.args.cert.now.pid c.args.cert.now c.named_once.ensures c.requires

pub check_delivery-requires-clause-own_spans : goal.check_delivery-requires-clause-own_spans
check_delivery-requires-clause-own_spans c = spans_accepted c.args.recording.now c.args.cert.now.pid c.args.cert.now c.named_once.ensures c.requires

pub fault_found-requires : goal.fault_found-requires
fault_found-requires c =
    let cert = c.args.cert.now in
    of_session c.args.recording.now cert c.in-Err.refusal c.in-Err.ensures.refused
    (λ place. c.verdict_by_certificate.ensures.refused_so c.args.recording.now cert.pid cert place c.in-Err.refusal c.named_once.ensures c.requires)

pub returns-in_ok-fault-in-Err : goal.returns-in_ok-fault-in-Err
returns-in_ok-fault-in-Err c =
    let cert = c.args.cert.now in
    let refusal = c.in-Err.refusal in
    let found = c.in_ok-fault-in-Err.ensures in
    let first = first_refusal c.args.recording.now cert refusal c.in_ok-fault-in-Err.fault c.in-Err.ensures.refused found in
    c.verdict_by_certificate.ensures.refused c.args.recording.now cert.pid cert refusal c.in_ok-fault-in-Err.fault c.named_once.ensures c.requires first found
