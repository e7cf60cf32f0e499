use Rattle.aud_input.proofs.FilesLemmas.{files-lines}
use Rattle.aud_input.proofs.line_laws.lines_of_files.Goals as goal

pub returns : goal.returns
returns c = files-lines
