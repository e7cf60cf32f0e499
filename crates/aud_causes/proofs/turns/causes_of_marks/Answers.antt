use Rattle.std.proofs.Common.{◌++◌, ◌∙◌, None, ap}
use Rattle.std.specs.Prelude.{option_to_list}
use Rattle.aud_causes.specs.Cleared.{cleared_after_break}
use Rattle.aud_causes.specs.Turns.{missing_back, missing_breaks, not_tapped}
use Rattle.aud_causes.specs.Twice.{twice_causes}
use Rattle.aud_causes.proofs.turns.causes_of_marks.Goals as goal

pub returns : goal.returns
returns c =
    let marks = c.args.marks.now in
    let begins = c.args.turns.now.begins.items in
    let broken = c.args.turns.now.broken.items in
    let ended = c.args.turns.now.ended.items in
    let untapped_is = c.not_tapped.ensures ∙ (λ i. not_tapped (c.deref-2.ensures.value i) 0 (c.deref.ensures.value i)) in
    let back_is = c.missing_back.ensures ∙ ap (missing_back marks) c.deref-3.ensures.value in
    let untapped = c.in_ok-push_some.ensures ∙ (λ i. c.new-found.ensures.items i ++ option_to_list (untapped_is i)) in
    let back = c.in_ok-push_some-2.ensures ∙ (λ i. untapped i ++ option_to_list (back_is i)) in
    let missing = c.in_ok-push_missing.ensures ∙ (λ i. back i ++ missing_breaks begins broken ended c.args.came.now) in
    let cleared = c.in_ok-push_cleared.ensures ∙ (λ i. missing i ++ cleared_after_break c.args.logs.now c.args.pid.now) in
    let twice = c.in_ok-push_twice.ensures ∙ (λ i. cleared i ++ twice_causes begins ended (c.is_as_often.ensures i) None marks) in
    c.in_ok-push_some-3.ensures ∙ (λ i. twice i ++ option_to_list (c.opened_twice.ensures i))
