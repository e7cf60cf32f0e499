use Rattle.std.proofs.Common.{◌∙◌, ◌++◌, ap, map, option_to_list}
use Rattle.aud_session_facts.specs.declared.account.Account.{Account}
use Rattle.aud_causes.specs.Facts.{facts_of}
use Rattle.aud_causes.specs.Unrecorded.{recovery_not_recorded}
use Rattle.aud_causes.specs.Differences.{case_of, causes_by}
use Rattle.aud_causes.proofs.delivery.difference_causes.Goals as goal

pub returns : goal.returns
returns c =
    let cluster = c.args.recording.now in
    let a = c.args.account.now in
    let numbers = c.args.numbers.now in
    let turns_are = c.as_slice-turns.ensures.value ∙ ap (λ (x : Account). x.cert.turns) c.account.view_is in
    let stream_is = c.stream.ensures ∙ ap (λ l. l.stream) c.logs-logs.ensures in
    let stays_are = c.as_slice-stays.ensures.value ∙ ap (λ (x : Account). x.stays.items) c.account.view_is in
    let facts_are = c.facts_of-facts.ensures ∙ (λ i. facts_of (stream_is i) (turns_are i) (map (λ stay. stay.now) (stays_are i)) c.args.difference) in
    let unrecorded_is = c.in_ok-unrecorded.ensures ∙ (λ i. recovery_not_recorded (turns_are i) (map (λ stay. stay.now) (stays_are i)) c.facts_of-facts.result) in
    λ made.
    c.in_ok-push_some.ensures
    ∙ (λ i. c.in_ok-found.ensures made i ++ option_to_list (unrecorded_is i))
    ∙ (λ i.
    let case = case_of cluster a numbers made in
    causes_by case c.args.difference (facts_are i) ++ option_to_list (recovery_not_recorded case.seen case.stays (facts_are i)))
