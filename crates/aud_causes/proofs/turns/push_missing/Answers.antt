use Rattle.std.proofs.Common.{◌++◌, ◌∙◌, ℕ, ap}
use Rattle.std.specs.Prelude.{option_to_list}
use Rattle.aud_causes.specs.Turns.{missing_break}
use Rattle.aud_causes.proofs.TurnLemmas.{given-next}
use Rattle.aud_causes.proofs.turns.push_missing.Goals as goal

pub loop-turn-preserved : goal.loop-turn-preserved
loop-turn-preserved c =
    let found = c.loop-turn.found.items in
    let turns = c.args.turns.now in
    given-next (λ (turn : ℕ). option_to_list (missing_break turns.begins.items turns.broken.items turns.ended.items c.args.came.now turn)) c.loop-turn.turn c.args.found.now.items found
    c.push_some.new.found.items c.loop-turn.invariant
    (c.in_ok-push_some.ensures ∙ ap (λ cause. found ++ option_to_list cause) c.missing_break.ensures)
