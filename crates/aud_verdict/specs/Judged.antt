-- What is found of a session.
use Rattle.std.specs.Prelude.{false}
use Rattle.aud_node.specs.Stream.{Text}
use Rattle.aud_node.specs.Cluster.{Cluster}
use Rattle.aud_cert.specs.Certificate.{CertificateSeen}
use Rattle.aud_maker.specs.Made.{IsMade}
use Rattle.aud_check.specs.declared.certificate.Accepted.{Accepted}
use Rattle.aud_check.specs.Refusals.{IsAccepted}
use Rattle.aud_verdict.specs.declared.verdict.Verdict.{Verdict}
use Rattle.aud_verdict.specs.declared.verdict.Verdict.TheVariants.{Yes, No}
use Rattle.aud_verdict.specs.declared.judging.Judged.{Judged}
use Rattle.aud_verdict.specs.declared.judging.Judged.TheVariants.{Shown, Faulty}
use Rattle.aud_verdict.specs.Verdict.{IsVerdict}
use Rattle.aud_verdict.specs.EveryRun.{IsDelivered}

-- the certificate was made for the session and is accepted; the verdict, where the whole isn't asked for, is yes with
-- these numbers; and in every run the client received what was due
abbrev pub IsShown : Cluster → Text → CertificateSeen → Accepted → Type 0
IsShown c pid cert counts =
    IsMade c pid cert × IsAccepted c cert × IsVerdict c false pid (Yes counts.got counts.tail counts.turns) × IsDelivered c pid counts.got counts.tail counts.turns

-- a certificate that shows that the verdict is yes, or the fault with which it is no
abbrev pub IsJudged : Cluster → Text → Judged → Type 0
IsJudged c pid (Shown cert counts) = IsShown c pid cert counts
IsJudged c pid (Faulty fault) = IsVerdict c false pid (No fault)

-- the verdict on the session for which the certificate was made; where it is yes the certificate shows it
abbrev pub IsJudgedBy : Cluster → CertificateSeen → Verdict → Type 0
IsJudgedBy c cert (Yes got tail turns) = IsShown c cert.pid cert (record { got = got; tail = tail; turns = turns })
IsJudgedBy c cert (No fault) = IsVerdict c false cert.pid (No fault)

-- where the verdict is yes, the session's certificate is accepted
abbrev pub HasCertificate : Cluster → Text → Verdict → Type 0
HasCertificate c pid (Yes got tail turns) = (cert : CertificateSeen) × IsMade c pid cert × IsAccepted c cert
HasCertificate c pid (No fault) = Unit {0}
