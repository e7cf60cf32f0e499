use Rattle.aud_laws.proofs.InSummary.{named_in_summary}
use Rattle.aud_laws.proofs.summary.causes_are_in_summary.Goals as goal

pub returns : goal.returns
returns c = named_in_summary
