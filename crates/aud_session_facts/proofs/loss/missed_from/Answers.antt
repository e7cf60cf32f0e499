use Rattle.std.proofs.Common.{◌≡◌, ◌∙◌, ap, sym, arith}
use Rattle.std.proofs.lemmas.Option.{none-some}
use Rattle.std.proofs.lemmas.Result.{IfOk-weaker}
use Rattle.aud_cert.specs.Certificate.{CertificateSeen}
use Rattle.aud_rooms.specs.Spans.{due_by_spans}
use Rattle.aud_session_facts.specs.Missed.{IsMissedFrom}
use Rattle.aud_session_facts.specs.Opened.{opened_in}
use Rattle.aud_session_facts.proofs.MissedLemmas.{opened_is, missed_so}
use Rattle.aud_session_facts.proofs.loss.missed_from.Goals as goal

pub unreachable-requires : goal.unreachable-requires
unreachable-requires c =
    let cert = c.args.cert.now in
    let turns_are : c.as_slice-turns.result.now ≡ cert.turns = c.as_slice-turns.ensures.value ∙ ap (λ (x : CertificateSeen). x.turns) c.cert.view_is in
    none-some _ (sym c.in_default.ensures ∙ ap opened_in turns_are ∙ opened_is c.args.recording.now cert c.requires)

pub returns : goal.returns
returns c =
    let cluster = c.args.recording.now in
    let cert = c.args.cert.now in
    let logs = c.logs-logs.result.now in
    let spans = c.in_ok-spans.spans.items in
    let opened = c.in-Some.opened in
    let turns_are : c.as_slice-turns.result.now ≡ cert.turns = c.as_slice-turns.ensures.value ∙ ap (λ (x : CertificateSeen). x.turns) c.cert.view_is in
    let pid_is : c.as_str-pid.result.now ≡ cert.pid = c.as_str-pid.ensures.value ∙ ap (λ (x : CertificateSeen). x.pid) c.cert.view_is in
    let after = c.unwrap_or-after.result in
    IfOk-weaker c.into_owned.result _
    (λ missed. IsMissedFrom cluster cert.pid c.args.last c.args.cursor missed.items)
    (λ missed owned.
    missed_so cluster cert c.requires (c.made_is_over.ensures.turns cluster cert.pid cert c.named_once.ensures c.requires) logs c.logs-logs.ensures c.as_slice-turns.result.now turns_are c.as_str-pid.result.now pid_is opened.sid.now opened.nsp.now opened.low c.in-Some.ensures c.args.last c.args.cursor after spans missed.items
    (grind (arith, c.unwrap_or-after.ensures)) c.in_ok-spans.ensures
    (owned (λ x y h. h) ∙ c.in_ok-due.ensures ∙ ap (λ ss. due_by_spans ss c.stream.result.now opened.nsp.now after c.args.cursor) c.deref.ensures.value ∙ ap (λ es. due_by_spans spans es opened.nsp.now after c.args.cursor) c.stream.ensures))
    c.into_owned.ensures.items_if_clones_equal
