use Rattle.std.proofs.Common.{◌≡◌, ◌++◌, ℕ, append-nil, get_or, option_copied, option_to_list, slice_get, ap, sym, ◌∙◌, arith}
use Rattle.std.proofs.lemmas.Grind.{common_steps}
use Rattle.std.proofs.lemmas.List.{take_all}
use Rattle.std.proofs.lemmas.Option.{gets}
use Rattle.aud_session_facts.specs.Recoveries.{recoveries_of}
use Rattle.aud_explain_app.specs.Asked.{numbered, numbers_for}
use Rattle.aud_explain_app.proofs.Steps.{flat_item}
use Rattle.aud_explain_app.proofs.asked.Asked.of.Goals.{in-Some+in_ok-push, in_default}
use Rattle.aud_explain_app.proofs.asked.Asked.of.Goals as goal

pub loop-number-preserved : goal.loop-number-preserved
loop-number-preserved c =
    let all = c.args.self.now.all.items in
    let before = c.loop-number.found.items in
    let numbers = c.of-number-items.result.now in
    let number : ℕ = get_or numbers c.loop-number.number-index 0 in
    let got : option_copied c.get.result ≡ slice_get all number = grind (arith, common_steps, gets, c.deref.ensures.value) in
    let more : c.match-get.found.items ≡ before ++ option_to_list (slice_get all number) = elim c.match-get.branch [
      | in-Some+in_ok-push w ↦ ap (λ v. v.items) w.found-is ∙ w.in_ok-push.ensures.items ∙ ap (λ o. before ++ option_to_list o) (sym (ap option_copied w.in-Some.is) ∙ got)
      | in_default w ↦ ap (λ v. v.items) w.found-is ∙ sym (append-nil before) ∙ ap (λ o. before ++ option_to_list o) (sym (ap option_copied w.in_default.is) ∙ got)
    ] in
    flat_item (λ k. option_to_list (slice_get all k)) numbers c.loop-number.number-index 0 _ _ c.loop-number-test.true c.loop-number.invariant more

pub returns : goal.returns
returns c = λ cluster are.
    let all = c.args.self.now.all.items in
    let pid = c.args.pid.now in
    let numbers = c.of-number-items.result.now in
    c.loop-number.invariant
    ∙ ap (numbered all) (take_all c.loop-number.number-index numbers c.loop-number-test.false ∙ c.of-number-items.ensures ∙ are.numbers_are pid)
    ∙ ap (λ rs. numbered rs (numbers_for cluster (recoveries_of cluster) pid)) are.all_are
