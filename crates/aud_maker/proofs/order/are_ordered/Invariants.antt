use Rattle.std.proofs.Common.{◌≡◌, drop}
use Rattle.std.specs.List.{list_all}
use Rattle.aud_maker.specs.Made.{is_turn_ordered}
use Rattle.aud_maker.proofs.order.are_ordered.Given as goal

abbrev pub invariant-loop-turn : goal.invariant-loop-turn
invariant-loop-turn l = list_all (is_turn_ordered l.logs) (drop l.turn-index l.turns) ≡ list_all (is_turn_ordered l.logs) l.turns
