use Rattle.aud_tap.proofs.Json.{json_or-read, json_or-refused}
use Rattle.aud_cert.specs.declared.text_fault.CertFault.TheVariants.{Syntax}
use Rattle.aud_cert.proofs.read.json.Goals as goal

pub returns-in-Ok : goal.returns-in-Ok
returns-in-Ok c = json_or-read Syntax _ _ c.in-Ok.ensures.ok

pub returns-in_default : goal.returns-in_default
returns-in_default c = λ _. json_or-refused Syntax _ (c.in-Err.ensures.err (λ m. c.in_default.not-Memory (c.classify.ensures.memory.1 m)))
