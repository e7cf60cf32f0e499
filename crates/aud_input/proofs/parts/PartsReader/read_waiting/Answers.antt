use Rattle.std.proofs.Common.{◌≡◌, ◌∙◌, None, ap}
use Rattle.aud_input.specs.Reader.{PartsSoFar}
use Rattle.aud_input.proofs.RefusedLemmas.{held-refused}
use Rattle.aud_input.proofs.parts.PartsReader.read_waiting.Goals as goal

pub returns-in-Err-clause-held : goal.returns-in-Err-clause-held
returns-in-Err-clause-held g c = λ other.
    let none : c.self.inside.taps.fault ≡ None = ap (λ (s : PartsSoFar). s.taps.fault) c.self.view_is ∙ c.requires.going in
    held-refused c.self.inside.taps c.lines.new.self c.self.inside.waiting c.in-Err.fault none c.in-Err.ensures.value c.in-Err.ensures.taps other
