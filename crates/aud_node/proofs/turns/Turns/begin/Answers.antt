use Rattle.std.proofs.Common.{arith}
use Rattle.std.proofs.lemmas.Grind.{text_groups}
use Rattle.aud_node.proofs.turns.Turns.begin.Goals as goal

pub returns-clause-spans : goal.returns-clause-spans
returns-clause-spans c = λ q k. let inner = c.in_ok-begin.ensures.spans k in let none = c.new.ensures.spans k in grind (arith, text_groups)

pub returns-clause-ends : goal.returns-clause-ends
returns-clause-ends c = λ q. grind (arith, text_groups)
