use Rattle.std.proofs.Common.{sym, ap, ◌∙◌, slice_get, Some}
use Rattle.std.proofs.lemmas.Bool.{false≢true}
use Rattle.std.proofs.lemmas.Option.{none-some}
use Rattle.aud_node.specs.Known.{known_entry}
use Rattle.aud_node.proofs.KnownLemmas.{known-there, known-at, known-event}
use Rattle.aud_node.proofs.stream.Stream.known.Goals as goal

pub returns-in_err-event-clause-first : goal.returns-in_err-event-clause-first
returns-in_err-event-clause-first c =
    let stream = c.self.inside.entries in
    let text = c.args.text.now in
    let i = c.in_ok-before.before in
    let (rec, at) = known-there stream text i (sym (c.in_ok-before.ensures ∙ ap (λ s. known_entry s text) (sym c.self.view_is))) in
    absurd (none-some rec (c.in_err-event.ensures ∙ at))

pub invariant_of-result : goal.invariant_of-result
invariant_of-result c =
    let stream = c.self.inside.entries in
    let text = c.args.text.now in
    let i = c.in_ok-before.before in
    let at = sym c.in_ok-event.ensures ∙ ap Some c.in-Ev.is in
    record { sent_alone = (known-event text c.in-Ev.event (known-at stream text i _ (sym (c.in_ok-before.ensures ∙ ap (λ s. known_entry s text) (sym c.self.view_is))) at)).1 }

pub returns-in-Ev-clause-entry : goal.returns-in-Ev-clause-entry
returns-in-Ev-clause-entry c =
    let stream = c.self.inside.entries in
    let i = c.in_ok-before.before in
    ap (λ s. slice_get s i) (sym c.self.view_is) ∙ sym c.in_ok-event.ensures ∙ ap Some c.in-Ev.is

pub returns-in-Ev-clause-text : goal.returns-in-Ev-clause-text
returns-in-Ev-clause-text c =
    let stream = c.self.inside.entries in
    let text = c.args.text.now in
    let i = c.in_ok-before.before in
    let at = sym c.in_ok-event.ensures ∙ ap Some c.in-Ev.is in
    (known-event text c.in-Ev.event (known-at stream text i _ (sym (c.in_ok-before.ensures ∙ ap (λ s. known_entry s text) (sym c.self.view_is))) at)).0

pub returns-in-Other-clause-first : goal.returns-in-Other-clause-first
returns-in-Other-clause-first c =
    let stream = c.self.inside.entries in
    let text = c.args.text.now in
    let i = c.in_ok-before.before in
    let at = sym c.in_ok-event.ensures ∙ ap Some c.in-Other.is in
    absurd (false≢true (known-at stream text i _ (sym (c.in_ok-before.ensures ∙ ap (λ s. known_entry s text) (sym c.self.view_is))) at))
