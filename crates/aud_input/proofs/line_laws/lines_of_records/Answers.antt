use Rattle.aud_input.proofs.KeptLemmas.{kept-lines}
use Rattle.aud_input.proofs.line_laws.lines_of_records.Goals as goal

pub returns : goal.returns
returns c = kept-lines
