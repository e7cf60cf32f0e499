use Rattle.std.proofs.Common.{◌≡◌, Ok}
use Rattle.aud_base.proofs.StepLemmas.{part-of}
use Rattle.aud_node.specs.Stream.{Text}
use Rattle.aud_node.specs.Cluster.{Cluster}
use Rattle.aud_cert.specs.Certificate.{CertificateSeen}
use Rattle.aud_cert.specs.Reading.{certificate_json, certificate_in, certificate_of}
use Rattle.aud_cert.specs.Sound.{IsSound}
use Rattle.aud_cert.proofs.Over.{read-sound, sound-some}
use Rattle.aud_verdict.proofs.acceptance.read_is_over.Goals as goal

-- nothing refuses a certificate that a text names
sound : (c : Cluster) (text : Text) (cert : CertificateSeen) → certificate_of c text ≡ Ok cert → IsSound c cert
unfolding certificate_of
sound c text cert e = let (d, is, rest) = part-of (certificate_json text) (certificate_in c) cert e in read-sound c d cert rest

pub returns : goal.returns
returns c = record { over = λ C text cert e. (sound C text cert e).over; some = λ C text cert e. sound-some C cert (sound C text cert e) }
