use Rattle.aud_input.proofs.PiecesLemmas.{read-as_one}
use Rattle.aud_input.proofs.law.input_in_any_pieces.Goals as goal

pub returns : goal.returns
returns c = read-as_one
