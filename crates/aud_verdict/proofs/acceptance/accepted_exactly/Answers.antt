use Rattle.aud_check.proofs.Ranks.{nothing_refuses}
use Rattle.aud_verdict.proofs.Unrefused.{accepted}
use Rattle.aud_verdict.proofs.acceptance.accepted_exactly.Goals as goal

pub returns : goal.returns
returns c = λ C cert. (nothing_refuses C cert, accepted C cert)
