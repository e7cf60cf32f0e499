use Rattle.std.proofs.Common.{not, nat_eq, subst, sym}
use Rattle.aud_findings.specs.Also.{AreAllOf, is_another}
use Rattle.aud_findings.proofs.AllOf.{all_passing}
use Rattle.aud_findings.proofs.also.past_first.Goals as goal

pub returns : goal.returns
returns c =
    let first = c.in-Some.first.now in
    subst (λ positions. AreAllOf (is_another positions) c.ascending.result.items) (sym c.in-Some.ensures.cases.0)
    (all_passing (λ p. not (nat_eq p first)) c.in-Some.later.now c.in_ok-found.found.items _ c.in_ok-found.ensures c.ascending.ensures)
