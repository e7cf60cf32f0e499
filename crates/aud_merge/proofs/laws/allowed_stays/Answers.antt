use Rattle.aud_merge.proofs.Exchange.{stays_allowed}
use Rattle.aud_merge.proofs.laws.allowed_stays.Goals as goal

pub returns : goal.returns
returns c = λ k steps run is allowed x s st1 st2 ex es n. stays_allowed k steps run is allowed x s st1 st2 ex es n
