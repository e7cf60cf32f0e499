use Rattle.aud_upgrade.specs.declared.joins.Joins.TheVariants.{TakeAlone}
use Rattle.aud_laws.proofs.OfABundle.UpgradedTaps.{upgraded-taps}
use Rattle.aud_laws.proofs.rewritten.upgraded_taps_are_of_a_bundle.Goals as goal

pub returns : goal.returns
returns c = upgraded-taps TakeAlone
