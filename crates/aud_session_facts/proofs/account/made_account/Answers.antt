use Rattle.std.proofs.Common.{◌∙◌, map, ap, subst, sym}
use Rattle.aud_node.specs.Cluster.{Cluster}
use Rattle.aud_cert.specs.Certificate.{CertificateSeen}
use Rattle.aud_check.specs.Difference.{IsAscending}
use Rattle.aud_session_facts.specs.Private.Sessions.{session_made}
use Rattle.aud_session_facts.proofs.Sessions.{account_made, due_ascends, tap_there, tells_there}
use Rattle.aud_session_facts.proofs.account.made_account.Goals as goal

pub returns-clause-account : goal.returns-clause-account
returns-clause-account c =
    let pid_is = ap (λ (x : CertificateSeen). x.pid) c.cert.view_is in
    account_made c.args.recording.now c.args.cert c.requires c.as_str.result.now c.as_str-2.result.now c.in-Some.client c.in-Some-client.tap.now
    (map (λ stay. stay.now) c.in_ok-stays.stays.items) c.in_ok-due.due.items
    (c.as_str.ensures.value ∙ pid_is) c.in-Some.ensures c.in-Some-client.ensures
    (c.as_str-2.ensures.value ∙ pid_is) c.in_ok-stays.ensures
    (c.in_ok-due.ensures c.requires)

pub unreachable-requires-in_default-client : goal.unreachable-requires-in_default-client
unreachable-requires-in_default-client c =
    tap_there c.args.recording.now c.args.cert c.requires c.as_str.result.now c.in-Some.client (c.as_str.ensures.value ∙ ap (λ (x : CertificateSeen). x.pid) c.cert.view_is) c.in-Some.ensures
    c.in_default-client.ensures

pub found_in-requires-clause-altered : goal.found_in-requires-clause-altered
found_in-requires-clause-altered c =
    tells_there c.args.recording.now c.stays_tell_altered.ensures.naming c.as_str-2.result.now c.in-Some.client c.in-Some-client.tap.now c.stream-stream.result.now
    (map (λ stay. stay.now) c.as_slice.result.now) c.in-Some-client.ensures (c.stream-stream.ensures ∙ ap (λ (r : Cluster). r.stream) c.logs.ensures)
    (ap (map (λ stay. stay.now)) c.as_slice.ensures.value ∙ c.in_ok-stays.ensures)

pub found_in-requires-clause-ascending : goal.found_in-requires-clause-ascending
found_in-requires-clause-ascending c = subst IsAscending (sym (c.as_slice-2.ensures.value ∙ c.in_ok-due.ensures c.requires)) (due_ascends c.args.recording.now (session_made c.args.recording.now c.args.cert c.requires))
