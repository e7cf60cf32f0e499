use Rattle.aud_causes.proofs.Listed.OfRefusal.{refusal_told}
use Rattle.aud_causes.proofs.law.causes_of_refusals_are_candidates.Goals as goal

pub returns : goal.returns
returns c = refusal_told
