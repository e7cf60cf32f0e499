use Rattle.std.proofs.Common.{inr}
use Rattle.aud_reader.proofs.LinesLemmas.{none_within}
use Rattle.aud_parts.proofs.tap_index.run_lines.whole_end.Goals as goal

pub returns-in-None-clause-cut : goal.returns-in-None-clause-cut
returns-in-None-clause-cut c = λ last. inr (none_within c.args.bytes.now c.in-None.ensures)
