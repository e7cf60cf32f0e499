use Rattle.aud_explanation.proofs.NamedApart.{names_apart}
use Rattle.aud_explanation.proofs.name.names_apart.Goals as goal

pub returns : goal.returns
returns c = names_apart
