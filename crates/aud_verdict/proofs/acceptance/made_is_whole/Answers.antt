use Rattle.aud_maker.specs.Made.{IsMade}
use Rattle.aud_verdict.proofs.Made.{whole}
use Rattle.aud_verdict.proofs.acceptance.made_is_whole.Goals as goal

pub returns : goal.returns
returns c = record { pid = λ C pid cert (made : IsMade C pid cert). made.is.pid_is; whole = whole }
