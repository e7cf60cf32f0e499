use Rattle.std.proofs.Common.{◌-◌, ◌<◌, ◌≤◌, arith, sym, subst, ◌∙◌, append_assoc, append-nil}
use Rattle.std.proofs.lemmas.Str.{IsUtf8-past_char}
use Rattle.aud_causes.specs.Texts.{near}
use Rattle.aud_causes.proofs.AroundLemmas.{around_behind, around_empty, around_next}
use Rattle.aud_causes.proofs.texts.push_around.Goals as goal

pub returns-then-saturating_sub-ge-NEAR : goal.returns-then-saturating_sub-ge-NEAR
returns-then-saturating_sub-ge-NEAR c =
    let held = c.loop-place.invariant in
    let steps = c.in-Some.ensures.steps in
    let past = around_behind c.args.at _ _ _ c.in-Some.c held.0 steps.1 (subst (λ p. near ≤ p - c.args.at) steps.0 (omega arith)) in
    c.in_ok-push_str.ensures.bytes ∙ rw past at held.1

pub loop-place-preserved : goal.loop-place-preserved
loop-place-preserved c =
    let held = c.loop-place.invariant in
    let steps = c.in-Some.ensures.steps in
    let next = around_next c.args.at _ _ _ c.in-Some.c held.0 steps.1 (subst (λ p. p - c.args.at < near) steps.0 (omega arith)) in
    (IsUtf8-past_char _ _ c.in-Some.c held.0 steps.1, rw (steps.2, c.in_ok-push_from.ensures, c.saturating_sub-in-loop-place.ensures, steps.0, append_assoc) (rw next at held.1))

pub returns : goal.returns
returns c = sym (append-nil _) ∙ rw (around_empty _ _ _ c.in-None.ensures.steps.0) at c.loop-place.invariant.1
