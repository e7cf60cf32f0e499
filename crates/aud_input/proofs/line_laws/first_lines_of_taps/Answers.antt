use Rattle.aud_input.proofs.KeptLemmas.{kept-first}
use Rattle.aud_input.proofs.line_laws.first_lines_of_taps.Goals as goal

pub returns : goal.returns
returns c = kept-first
