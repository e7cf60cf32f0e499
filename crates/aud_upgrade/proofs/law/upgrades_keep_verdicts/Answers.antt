use Rattle.aud_upgrade.proofs.KeptLemmas.{keep_verdicts}
use Rattle.aud_upgrade.proofs.law.upgrades_keep_verdicts.Goals as goal

pub returns : goal.returns
returns c = keep_verdicts
