use Rattle.aud_input.proofs.LineRunsLemmas.{names-lines}
use Rattle.aud_input.proofs.line_laws.lines_are_named.Goals as goal

pub returns : goal.returns
returns c = names-lines
