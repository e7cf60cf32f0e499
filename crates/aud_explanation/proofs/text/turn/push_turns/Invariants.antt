use Rattle.std.proofs.Common.{◌≡◌, take}
use Rattle.aud_explanation.specs.TurnText.{node_width}
use Rattle.aud_explanation.proofs.text.turn.push_turns.Given as goal

-- the width for the turns so far
abbrev pub invariant-loop-turn : goal.invariant-loop-turn
invariant-loop-turn l = l.width ≡ node_width (take l.turn-index l.turns)
