use Rattle.aud_parts.proofs.MergedLinesLemmas.{merges_lines}
use Rattle.aud_parts.proofs.merging.laws.merges_lines.Goals as goal

pub returns : goal.returns
returns c = merges_lines
