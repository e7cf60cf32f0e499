use Rattle.aud_reader.proofs.TapLaws.{sound-line}
use Rattle.aud_reader.proofs.bundle.BundleReader.line.Goals as goal

pub invariant_of-self : goal.invariant_of-self
invariant_of-self c = λ none. (c.in-Ok.ensures.keeps, sound-line _ _ c.line.inside.bytes.now (c.self.invariant none).1 c.in-Ok.ensures.taps)
