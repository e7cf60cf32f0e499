use Rattle.serde_json.specs.View.{view}
use Rattle.aud_cert.proofs.Over.{if-read, read-sound, sound-some}
use Rattle.aud_cert.proofs.read.read_cert.Goals as goal

pub returns-clause-over : goal.returns-clause-over
returns-clause-over c = if-read c.certificate_in.result _ _ (λ cert is. (read-sound c.args.logs.now (view c.in_ok-d.d) cert is).over) c.certificate_in.ensures

pub returns-clause-some : goal.returns-clause-some
returns-clause-some c = if-read c.certificate_in.result _ _ (λ cert is. sound-some c.args.logs.now cert (read-sound c.args.logs.now (view c.in_ok-d.d) cert is)) c.certificate_in.ensures

pub returns-clause-sound : goal.returns-clause-sound
returns-clause-sound c = if-read c.certificate_in.result _ _ (read-sound c.args.logs.now (view c.in_ok-d.d)) c.certificate_in.ensures
