use Rattle.aud_input.proofs.StandLemmas.{records-stand}
use Rattle.aud_input.proofs.line_laws.records_have_their_lines.Goals as goal

pub returns : goal.returns
returns c = records-stand
