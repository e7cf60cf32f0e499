use Rattle.aud_causes.proofs.Listed.OfFault.{told_listed}
use Rattle.aud_causes.proofs.law.told_causes_are_candidates.Goals as goal

pub returns : goal.returns
returns c = λ cluster lines client whole pid noted account fault causes is of told.
    told_listed cluster lines client pid noted account fault causes (λ a kind own. c.verdict_is_found.ensures cluster whole pid fault a is kind own) of told
