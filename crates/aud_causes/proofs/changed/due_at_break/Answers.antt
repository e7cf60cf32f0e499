use Rattle.std.proofs.Common.{◌≡◌, ◌∙◌, ap, sym}
use Rattle.std.proofs.lemmas.Option.{none-some}
use Rattle.std.proofs.lemmas.Result.{IfOk-weaker}
use Rattle.aud_cert.specs.Certificate.{CertificateSeen}
use Rattle.aud_maker.specs.Made.{IsMade}
use Rattle.aud_rooms.specs.Spans.{due_by_spans}
use Rattle.aud_session_facts.specs.Opened.{opened_in}
use Rattle.aud_session_facts.proofs.MissedLemmas.{opened_is}
use Rattle.aud_causes.specs.AtBreak.{due_at_break}
use Rattle.aud_causes.proofs.AtBreakLemmas.{at_break_so}
use Rattle.aud_causes.proofs.changed.due_at_break.Goals as goal

pub unreachable-requires : goal.unreachable-requires
unreachable-requires c =
    let cert = c.args.cert.now in
    let turns_are : c.as_slice-turns.result.now ≡ cert.turns = c.as_slice-turns.ensures.value ∙ ap (λ (x : CertificateSeen). x.turns) c.cert.view_is in
    none-some _ (sym c.in_default.ensures ∙ ap opened_in turns_are ∙ opened_is c.args.recording.now cert c.requires)

pub returns : goal.returns
returns c =
    let cluster = c.args.recording.now in
    let cert = c.args.cert.now in
    let opened = c.in-Some.opened in
    let spans = c.in_ok-spans.spans.items in
    let replay = c.args.replay in
    let turns_are : c.as_slice-turns.result.now ≡ cert.turns = c.as_slice-turns.ensures.value ∙ ap (λ (x : CertificateSeen). x.turns) c.cert.view_is in
    let pid_is : c.as_str-pid.result.now ≡ cert.pid = c.as_str-pid.ensures.value ∙ ap (λ (x : CertificateSeen). x.pid) c.cert.view_is in
    IfOk-weaker c.into_owned.result _
    (λ due. (made : IsMade cluster cert.pid cert) → due.items ≡ due_at_break cluster made.who made.turns c.args.count replay)
    (λ due owned made.
    at_break_so cluster cert made (c.made_is_over.ensures.turns cluster cert.pid cert c.named_once.ensures made) c.logs-logs.result.now c.logs-logs.ensures c.as_slice-turns.result.now turns_are c.as_str-pid.result.now pid_is opened.sid.now opened.nsp.now opened.low c.in-Some.ensures
    c.args.count c.front_of-before.result.now replay spans due.items c.front_of-before.ensures c.in_ok-spans.ensures
    (owned (λ x y h. h) ∙ c.in_ok-due.ensures ∙ ap (λ ss. due_by_spans ss c.stream.result.now opened.nsp.now replay.after replay.low) c.deref.ensures.value ∙ ap (λ es. due_by_spans spans es opened.nsp.now replay.after replay.low) c.stream.ensures))
    c.into_owned.ensures.items_if_clones_equal
