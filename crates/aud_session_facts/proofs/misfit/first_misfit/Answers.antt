use Rattle.std.proofs.Common.{◌≡◌, ◌<◌, ◌∙◌, true, length, None, sym, ap, subst, arith}
use Rattle.aud_node.specs.OwnPlaces.{own_places}
use Rattle.aud_maker.specs.Begun.{turn_begun}
use Rattle.aud_maker.specs.Ended.{are_ended}
use Rattle.aud_session_facts.specs.Misfit.{IsMisfit, HasChain}
use Rattle.aud_session_facts.proofs.Sweeps.{not-begun}
use Rattle.aud_session_facts.proofs.Ends.{has-chain, at-none}
use Rattle.aud_session_facts.proofs.misfit.first_misfit.Goals as goal

pub returns-then-is_empty : goal.returns-then-is_empty
returns-then-is_empty c =
    let zero : length c.in_ok-turns.turns.items ≡ 0 = grind (arith, c.is_empty.ensures, c.if-is_empty.true) in
    not-begun c.args.logs.now c.args.pid.now 0 (subst (λ n. turn_begun c.args.logs.now (own_places c.args.logs.now c.args.pid.now) c.args.pid.now n ≡ None) zero c.in_ok-turns.ensures.no_more)

pub returns : goal.returns
returns c =
    let some : 0 < length c.in_ok-turns.turns.items = grind (arith, c.is_empty.ensures, c.if-is_empty.false) in
    at-none c.first_unended.result (are_ended c.args.logs.now c.args.pid.now 0 c.deref-in-None.result.now ≡ true) (HasChain c.args.logs.now c.args.pid.now) (IsMisfit c.args.logs.now c.args.pid.now)
    (λ ended. has-chain c.args.logs.now c.args.pid.now c.in_ok-turns.turns.items c.in_ok-turns.ensures some (ap (are_ended c.args.logs.now c.args.pid.now 0) (sym c.deref-in-None.ensures.value) ∙ ended) (rw (← c.nodes_of-nodes.ensures, ← c.deref.ensures.value) c.in-None.ensures))
    c.first_unended.ensures
