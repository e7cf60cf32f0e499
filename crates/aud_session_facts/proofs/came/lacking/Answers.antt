use Rattle.std.proofs.Common.{◌∙◌, ◌++◌, ◌∷◌, [], ℕ, ap, filter, get_or, not, sym}
use Rattle.std.specs.Ordering.{nat_cmp}
use Rattle.std.specs.BTreeSet.{contains}
use Rattle.std.proofs.lemmas.List.Elements.{filter_more}
use Rattle.aud_session_facts.proofs.came.lacking.Goals as goal

pub loop-position-preserved : goal.loop-position-preserved
loop-position-preserved c =
    let lacks = λ (p : ℕ). not (contains nat_cmp c.args.all.now p) in
    let xs = c.args.positions.now in
    let i = c.loop-position.position-index in
    c.in_ok-push_lacking.ensures ∙ ap (λ ys. ys ++ filter lacks (get_or xs i 0 ∷ [])) c.loop-position.invariant ∙ sym (filter_more lacks xs i 0 c.loop-position-test.true)
