use Rattle.std.proofs.Common.{◌++◌, subst}
use Rattle.aud_input.specs.Reader.{AreAmong}
use Rattle.aud_input.proofs.parts.PartsReader.take_lines.Goals as goal

pub returns-in-Ok-clause-waits : goal.returns-in-Ok-clause-waits
returns-in-Ok-clause-waits g c = λ other.
    subst (λ lines. AreAmong c.read_lines.new.self.waiting (c.args.self.now.waiting ++ lines)) c.waiting.ensures (c.in-Ok.ensures.waits other)

pub returns-in-Err-clause-waits : goal.returns-in-Err-clause-waits
returns-in-Err-clause-waits g c = λ other.
    subst (λ lines. AreAmong c.read_lines.new.self.waiting (c.args.self.now.waiting ++ lines)) c.waiting.ensures (c.in-Err.ensures.waits other)
