use Rattle.aud_reader.proofs.SessionLemmas.{taken_and_last, taken_before, taken_front}
use Rattle.aud_reader.proofs.law.lines_in_any_pieces.Goals as goal

pub returns-clause-finished : goal.returns-clause-finished
returns-clause-finished c = taken_and_last

pub returns-clause-refused : goal.returns-clause-refused
returns-clause-refused c = taken_before

pub returns-clause-front : goal.returns-clause-front
returns-clause-front c = taken_front
