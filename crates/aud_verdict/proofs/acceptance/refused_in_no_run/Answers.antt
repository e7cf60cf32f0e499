use Rattle.aud_check.proofs.Headline.{in_no_run}
use Rattle.aud_verdict.proofs.acceptance.refused_in_no_run.Goals as goal

pub returns : goal.returns
returns c = λ C cert refusal run first about chain is_run. in_no_run C cert refusal first about c.due_by_turns.ensures.all chain run is_run
