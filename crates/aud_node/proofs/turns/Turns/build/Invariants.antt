use Rattle.aud_node.proofs.TurnLemmas.{HoldsFrom}
use Rattle.aud_node.proofs.turns.Turns.build.Given as goal

abbrev pub invariant-loop-number : goal.invariant-loop-number
invariant-loop-number l = HoldsFrom l.recs l.number l.turns
