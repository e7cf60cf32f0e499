use Rattle.aud_explanation.proofs.Apart.{printed_apart}
use Rattle.aud_explanation.proofs.escape.printed_apart.Goals as goal

pub returns : goal.returns
returns c = printed_apart
