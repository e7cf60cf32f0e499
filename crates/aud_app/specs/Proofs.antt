-- The certificate of each session that is answered yes.
use Rattle.std.specs.Prelude.{◌≡◌, false, List, Option, Some, None}
use Rattle.aud_node.specs.Stream.{Text}
use Rattle.aud_node.specs.Cluster.{Cluster}
use Rattle.aud_cert.specs.declared.fault.Fault.{Fault}
use Rattle.aud_cert.specs.Certificate.{CertificateSeen}
use Rattle.aud_cert.specs.Text.{certificate_text}
use Rattle.aud_check.specs.declared.certificate.Accepted.{Accepted}
use Rattle.aud_verdict.specs.declared.verdict.Verdict.TheVariants.{No}
use Rattle.aud_base.specs.OneForEach.{OneForEach}
use Rattle.aud_verdict.specs.Verdict.{IsVerdict}
use Rattle.aud_verdict.specs.Judged.{IsShown}

-- the text of the session's certificate, where the verdict is yes, the whole not being asked for; none where it is no
abbrev pub IsProof : Cluster → Text → Option Text → Type 0
IsProof c pid (Some text) = (cert : CertificateSeen) × (counts : Accepted) × IsShown c pid cert counts × (text ≡ certificate_text cert)
IsProof c pid None = (fault : Fault) × IsVerdict c false pid (No fault)

-- the certificates of these sessions, a place for each, in order
abbrev pub AreProofs : Cluster → List Text → List (Option Text) → Type 0
AreProofs c = OneForEach (IsProof c)
