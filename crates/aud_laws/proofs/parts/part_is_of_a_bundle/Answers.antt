use Rattle.aud_laws.proofs.InParts.Bundles.{part-bundle}
use Rattle.aud_laws.proofs.parts.part_is_of_a_bundle.Goals as goal

pub returns : goal.returns
returns c = part-bundle
