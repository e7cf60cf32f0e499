use Rattle.std.proofs.Common.{IfOk, Some, ap, sym, subst, ◌∙◌}
use Rattle.aud_maker.specs.Sessions.{reply_pids}
use Rattle.aud_reader.specs.Bundle.{tap_named}
use Rattle.aud_reader.specs.OwnLines.{HaveTheirOwnLines}
use Rattle.aud_parts.specs.ClientFacts.{TellEvents}
use Rattle.aud_parts.proofs.ClientsLemmas.{client-told, none-told, other-told}
use Rattle.aud_parts.proofs.clients.told_of.Goals as goal

pub returns-in_default : goal.returns-in_default
returns-in_default c = λ lines is.
    let name = c.args.tap.now.name in
    let own = subst (λ r. IfOk r (HaveTheirOwnLines lines)) c.in-Ok.is is.own in
    none-told name lines c.in-Ok.taps own (sym (c.in_default.ensures ∙ ap (λ n. tap_named n c.as_slice.result.now) c.name.ensures.value ∙ ap (tap_named name) c.as_slice.ensures))

pub returns-in_default-records : goal.returns-in_default-records
returns-in_default-records c = λ lines is.
    let name = c.args.tap.now.name in
    let own = subst (λ r. IfOk r (HaveTheirOwnLines lines)) c.in-Ok.is is.own in
    let named = sym (c.in-Some.ensures ∙ ap (λ n. tap_named n c.as_slice.result.now) c.name.ensures.value ∙ ap (tap_named name) c.as_slice.ensures) in
    other-told name lines c.in-Ok.taps own c.in-Some.one.now named c.in_default-records.not-Client

pub returns : goal.returns
returns c = λ lines is.
    let name = c.args.tap.now.name in
    let stream = c.args.stream.now in
    let recs = c.in-Client.records in
    let own = subst (λ r. IfOk r (HaveTheirOwnLines lines)) c.in-Ok.is is.own in
    let named = sym (c.in-Some.ensures ∙ ap (λ n. tap_named n c.as_slice.result.now) c.name.ensures.value ∙ ap (tap_named name) c.as_slice.ensures) in
    client-told name lines c.in-Ok.taps own c.in-Some.one.now named stream recs _ c.in-Client.is record {
      pids_are = c.in_ok-facts.ensures.pids ∙ ap (λ rs. reply_pids stream (Some rs)) c.as_slice-2.ensures;
      events_are = subst (λ rs. TellEvents stream rs c.in_ok-facts.facts.came.items) c.as_slice-2.ensures c.in_ok-facts.ensures.events;
    }
