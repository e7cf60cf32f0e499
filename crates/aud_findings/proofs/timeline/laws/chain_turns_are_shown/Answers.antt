use Rattle.aud_findings.proofs.ChainLemmas.{turn-shown}
use Rattle.aud_findings.proofs.timeline.laws.chain_turns_are_shown.Goals as goal

pub returns : goal.returns
returns c = turn-shown
