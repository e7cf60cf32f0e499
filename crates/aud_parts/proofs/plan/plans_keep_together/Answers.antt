use Rattle.aud_parts.proofs.KeptTogether.{keeps_together}
use Rattle.aud_parts.proofs.plan.plans_keep_together.Goals as goal

pub returns : goal.returns
returns c = keeps_together
