use Rattle.std.proofs.Common.{arith}
use Rattle.aud_verdict.proofs.acceptance.tail_refuses_none.Goals as goal

pub returns : goal.returns
returns c = λ C cert place count h. grind arith
