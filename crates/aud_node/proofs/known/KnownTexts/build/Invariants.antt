use Rattle.aud_node.proofs.KnownIndexLemmas.{KnownFrom}
use Rattle.aud_node.proofs.known.KnownTexts.build.Given as goal

abbrev pub invariant-loop-i : goal.invariant-loop-i
invariant-loop-i l = KnownFrom l.entries l.i l.known
