use Rattle.aud_laws.proofs.LinesInFiles.{lines_stand}
use Rattle.aud_laws.proofs.places.lines_stand_where_told.Goals as goal

pub returns : goal.returns
returns c = lines_stand c.lines_of_files.ensures
