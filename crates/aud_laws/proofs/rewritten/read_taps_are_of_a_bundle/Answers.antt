use Rattle.aud_laws.proofs.OfABundle.ReadTaps.{read-taps}
use Rattle.aud_laws.proofs.rewritten.read_taps_are_of_a_bundle.Goals as goal

pub returns : goal.returns
returns c = read-taps
