-- What is proven by what was made for a session.
use Rattle.std.specs.Prelude.{◌≡◌, Option, None, Result, Ok, Err}
use Rattle.aud_node.specs.Stream.{Text}
use Rattle.aud_node.specs.Cluster.{Cluster}
use Rattle.aud_cert.specs.declared.fault.Fault.{Fault}
use Rattle.aud_cert.specs.Certificate.{CertificateSeen}
use Rattle.aud_maker.specs.Made.{IsMade}
use Rattle.aud_app.specs.Proofs.{IsProof}

-- where it is a certificate, it was made for the session that it names
abbrev pub IsOfItsSession : Cluster → Result CertificateSeen Fault → Type 0
IsOfItsSession c (Ok cert) = IsMade c cert.pid cert
IsOfItsSession c (Err fault) = Unit {0}

-- the text of the certificate, where the verdict on its session is yes; none where none was made
abbrev pub IsProofBy : Cluster → Result CertificateSeen Fault → Option Text → Type 0
IsProofBy c (Ok cert) proof = IsProof c cert.pid proof
IsProofBy c (Err fault) proof = proof ≡ None
