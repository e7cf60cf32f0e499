use Rattle.std.proofs.Common.{◌≡◌, ◌∙◌, ap, sym, option_map}
use Rattle.std.proofs.lemmas.Option.{none-some}
use Rattle.std.specs.Option.{is_none}
use Rattle.aud_cert.specs.Certificate.{CertificateSeen}
use Rattle.aud_maker.specs.Made.{IsMade}
use Rattle.aud_session_facts.specs.Opened.{opened_in}
use Rattle.aud_session_facts.proofs.MissedLemmas.{opened_is}
use Rattle.aud_session_facts.specs.NotDue.{reason_of, why_not_due}
use Rattle.aud_session_facts.specs.Opened.{greatest_turn_high}
use Rattle.aud_session_facts.specs.Private.BySpans.{why_by_spans}
use Rattle.aud_session_facts.proofs.DueLemmas.{due_decided, none_mapped, why_so}
use Rattle.aud_session_facts.proofs.not_due.why_not_due.Goals as goal

pub unreachable-requires : goal.unreachable-requires
unreachable-requires c =
    let cert = c.args.cert.now in
    let turns_are : c.as_slice-turns.result.now ≡ cert.turns = c.as_slice-turns.ensures.value ∙ ap (λ (x : CertificateSeen). x.turns) c.cert.view_is in
    none-some _ (sym c.in_default.ensures ∙ ap opened_in turns_are ∙ opened_is c.args.logs.now cert c.requires)

-- the reason that was found is why
why_found : (c : goal.After-why_by_spans) (made : IsMade c.args.logs.now c.args.cert.now.pid c.args.cert.now) → option_map reason_of c.why_by_spans.result ≡ why_not_due c.args.logs.now made.who made.turns c.args.position
why_found c made =
    let logs = c.args.logs.now in
    let cert = c.args.cert.now in
    let opened = c.in-Some.opened in
    let turns_are : c.as_slice-turns.result.now ≡ cert.turns = c.as_slice-turns.ensures.value ∙ ap (λ (x : CertificateSeen). x.turns) c.cert.view_is in
    let spans_are : c.as_slice.result.now ≡ cert.spans = c.as_slice.ensures.value ∙ ap (λ (x : CertificateSeen). x.spans) c.cert.view_is in
    c.why_by_spans.ensures
    ∙ (λ i. why_by_spans logs.stream (spans_are i) opened.nsp.now opened.low c.greatest_high.result c.args.position)
    ∙ why_so logs cert made c.args.position opened.sid.now opened.nsp.now opened.low c.greatest_high.result (ap opened_in (sym turns_are) ∙ c.in-Some.ensures) (c.greatest_high.ensures ∙ ap greatest_turn_high turns_are)

pub returns-clause-why : goal.returns-clause-why
returns-clause-why c made = why_found c made

pub returns-clause-due : goal.returns-clause-due
returns-clause-due c made =
    sym (none_mapped reason_of c.why_by_spans.result) ∙ ap is_none (why_found c made) ∙ due_decided c.args.logs.now made.who made.turns c.args.position
