use Rattle.std.proofs.Common.{rules, sym, ap, ◌∙◌, subst, arith, ◌<◌, ◌≤◌}
use Rattle.aud_desk.specs.Draws.{late_count}
use Rattle.aud_desk.proofs.Steps.{claims}
use Rattle.aud_desk.proofs.Lists.{late-push}
use Rattle.aud_desk.proofs.tickets.Tickets.claim.Goals as goal

pub fetch_add-x-requires : goal.fetch_add-x-requires
fetch_add-x-requires c =
    let held = c.args.held in
    let pass = held.one_pass c.if-held.false in
    (search rules, omega (arith, c.args.self.now.one_word), claims _ _ _ _ held.live (omega arith))

pub invariant_of-result-else-x-self : goal.invariant_of-result-else-x-self
invariant_of-result-else-x-self c =
    let held = c.args.held in
    let x = c.fetch_add-x.result in
    let n = held.seat.me.0.n in
    let is = c.fetch_add-x.ensures.2.0 in
    let past : n ≤ x = omega (arith, c.requires.1) in record {
      no_slot = ap (λ m. m.1) is ∙ held.no_slot;
      live = ap (λ m. m.0.live) is ∙ held.live;
      one_pass = λ e. absurd (cc);
      past = λ _. subst (λ m. 0 < late_count m.0.n m.0.drawn) (sym is) (late-push n x held.seat.me.0.drawn past);
    }
