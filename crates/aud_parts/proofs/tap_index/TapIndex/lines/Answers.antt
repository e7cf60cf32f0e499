use Rattle.std.proofs.Common.{arith}
use Rattle.aud_parts.proofs.IndexLemmas.{read-whole}
use Rattle.aud_parts.proofs.tap_index.TapIndex.lines.Goals as goal

pub returns : goal.returns
returns c = λ files has counted. let number = (read-whole c.args.self.now files (has counted)).1 in omega (arith, c.saturating_sub.ensures, number)
