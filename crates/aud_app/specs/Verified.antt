-- The answers on the certificates of an input.
use Rattle.std.specs.Prelude.{◌≡◌, ◌-◌, List, length, Result, Ok, Err}
use Rattle.aud_reader.specs.declared.line.Line.{Line}
use Rattle.aud_node.specs.Cluster.{Cluster}
use Rattle.aud_cert.specs.declared.text_fault.CertFault.{CertFault}
use Rattle.aud_cert.specs.declared.text_fault.CertFault.TheVariants.{Memory}
use Rattle.aud_cert.specs.Certificate.{CertificateSeen}
use Rattle.aud_cert.specs.Reading.{certificate_of}
use Rattle.aud_check.specs.declared.certificate.Accepted as check
use Rattle.aud_check.specs.Shown.{shown_due, frames_received}
use Rattle.aud_check.specs.Refusals.{RefusesFirst, IsAccepted}
use Rattle.aud_app.specs.declared.answer.Answer.{Answer}
use Rattle.aud_app.specs.declared.answer.Answer.TheVariants.{Accepted, Unread, Refused}
use Rattle.aud_app.specs.declared.answer.Answered.{Answered}
use Rattle.aud_base.specs.OneForEach.{OneForEach}
use Rattle.aud_app.specs.AnswersInEveryRun.{AnswerHoldsInEveryRun}

-- how much of what is due by the shown turns the session received
abbrev pub counts_of : Cluster → CertificateSeen → check.Accepted
counts_of c cert = record {
  got = length (frames_received c cert);
  tail = length (shown_due c cert) - length (frames_received c cert);
  turns = length cert.turns;
}

-- the answer on a certificate that is read: all that it says is so, or what refuses it first
abbrev pub IsAnswerOn : Cluster → CertificateSeen → Answer → Type 0
IsAnswerOn c cert (Accepted pid counts) = IsAccepted c cert × (pid ≡ cert.pid) × (counts ≡ counts_of c cert)
IsAnswerOn c cert (Refused refusal) = RefusesFirst c cert refusal
IsAnswerOn c cert (Unread fault) = ⊥

-- the answer on the text's reading, and what it says holds in every run; running out of memory is none
abbrev pub IsAnswerTo : Cluster → Result CertificateSeen CertFault → Answer → Type 0
IsAnswerTo c (Ok cert) answer = IsAnswerOn c cert answer × AnswerHoldsInEveryRun c cert answer
IsAnswerTo c (Err Memory) answer = ⊥
IsAnswerTo c (Err fault) answer = answer ≡ Unread fault

-- the answer on the line, by its number
abbrev pub IsAnswered : Cluster → Line → Answered → Type 0
IsAnswered c line answered = (answered.line ≡ line.number) × IsAnswerTo c (certificate_of c line.bytes) answered.answer

-- the answers on these lines, one for each, in order
abbrev pub AreAnswered : Cluster → List Line → List Answered → Type 0
AreAnswered c = OneForEach (IsAnswered c)
