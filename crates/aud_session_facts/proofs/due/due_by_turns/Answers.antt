use Rattle.std.proofs.Common.{◌≡◌, ◌∙◌, ap, sym}
use Rattle.std.proofs.lemmas.Option.{none-some}
use Rattle.std.proofs.lemmas.Result.{IfOk-weaker}
use Rattle.aud_cert.specs.Certificate.{CertificateSeen}
use Rattle.aud_maker.specs.Made.{IsMade}
use Rattle.aud_rooms.specs.Spans.{due_by_spans}
use Rattle.aud_verdict.specs.Session.{due_to}
use Rattle.aud_session_facts.specs.Opened.{opened_in}
use Rattle.aud_session_facts.proofs.MissedLemmas.{opened_is}
use Rattle.aud_session_facts.specs.Opened.{greatest_turn_high}
use Rattle.aud_session_facts.specs.Private.Sessions.{session_made}
use Rattle.aud_session_facts.proofs.Sessions.{due_so}
use Rattle.aud_session_facts.proofs.due.due_by_turns.Goals as goal

pub unreachable-requires : goal.unreachable-requires
unreachable-requires c =
    let cert = c.args.cert.now in
    let turns_are : c.as_slice-turns.result.now ≡ cert.turns = c.as_slice-turns.ensures.value ∙ ap (λ (x : CertificateSeen). x.turns) c.cert.view_is in
    none-some _ (sym c.in_default.ensures ∙ ap opened_in turns_are ∙ opened_is c.args.recording.now cert c.requires)

pub returns : goal.returns
returns c =
    let cluster = c.args.recording.now in
    let cert = c.args.cert.now in
    let opened = c.in-Some.opened in
    let turns_are : c.as_slice-turns.result.now ≡ cert.turns = c.as_slice-turns.ensures.value ∙ ap (λ (x : CertificateSeen). x.turns) c.cert.view_is in
    let spans_are : c.as_slice.result.now ≡ cert.spans = c.as_slice.ensures.value ∙ ap (λ (x : CertificateSeen). x.spans) c.cert.view_is in
    let stream_is : c.stream-stream.result.now ≡ cluster.stream = c.stream-stream.ensures ∙ ap (λ l. l.stream) c.logs.ensures in
    IfOk-weaker c.into_owned.result _
    (λ due. (made : IsMade cluster cert.pid cert) → due.items ≡ due_to cluster (session_made cluster cert made))
    (λ due owned made.
    owned (λ x y h. h)
    ∙ c.in_ok-due.ensures
    ∙ (λ i. due_by_spans (spans_are i) (stream_is i) opened.nsp.now opened.low c.greatest_high-high.result)
    ∙ due_so cluster cert made c.due_by_spans_of_turns.ensures opened.sid.now opened.nsp.now opened.low c.greatest_high-high.result
    (ap opened_in (sym turns_are) ∙ c.in-Some.ensures) (c.greatest_high-high.ensures ∙ ap greatest_turn_high turns_are))
    c.into_owned.ensures.items_if_clones_equal
