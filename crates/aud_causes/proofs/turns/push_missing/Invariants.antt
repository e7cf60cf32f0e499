use Rattle.std.proofs.Common.{◌≡◌, ◌++◌, flat_map}
use Rattle.std.specs.Prelude.{option_to_list}
use Rattle.aud_base.specs.Lists.{numbers_from}
use Rattle.aud_causes.specs.Turns.{missing_break}
use Rattle.aud_causes.proofs.turns.push_missing.Given as goal

-- those of the turns so far come after what was there
abbrev pub invariant-loop-turn : goal.invariant-loop-turn
invariant-loop-turn l = l.found.items ≡ l.initial.found.items ++ flat_map (λ turn. option_to_list (missing_break l.turns.begins.items l.turns.broken.items l.turns.ended.items l.came turn)) (numbers_from 0 l.turn)
