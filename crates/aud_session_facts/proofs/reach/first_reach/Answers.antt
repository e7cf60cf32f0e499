use Rattle.std.proofs.Common.{◌≡◌, ◌∙◌, IfSome, Some, ap, map, sym, subst, option_map}
use Rattle.aud_cert.specs.Certificate.{turn_at}
use Rattle.aud_session_facts.specs.declared.reach.Reach.{Reach}
use Rattle.aud_session_facts.specs.Reach.{step_of, first_turn_reaching}
use Rattle.aud_session_facts.proofs.Found.{found_step, found_turn_from_0}
use Rattle.aud_session_facts.proofs.reach.first_reach.Goals as goal

pub returns-clause-step : goal.returns-clause-step
returns-clause-step c =
    ap (option_map step_of) c.reach_from.ensures ∙ found_step c.args.logs.now c.args.position 0 (map (turn_at c.args.logs.now) c.args.turns.now)

pub returns-clause-turn : goal.returns-clause-turn
returns-clause-turn c =
    let turns = map (turn_at c.args.logs.now) c.args.turns.now in
    subst (λ o. IfSome o (λ (reach : Reach). first_turn_reaching c.args.logs.now turns c.args.position ≡ Some reach.turn)) (sym c.reach_from.ensures)
    (found_turn_from_0 c.args.logs.now c.args.position turns)
