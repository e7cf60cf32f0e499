-- What the answer on a certificate says of every run of the logs.
use Rattle.std.specs.Prelude.{◌≡◌, ◌+◌, List, length}
use Rattle.aud_node.specs.Cluster.{Cluster}
use Rattle.aud_rooms.specs.Turns.{AreTurns, IsChain}
use Rattle.aud_merge.specs.declared.step.Step.{Step}
use Rattle.aud_merge.specs.Runs.{IsRun}
use Rattle.aud_merge.specs.Due.{due}
use Rattle.aud_merge.specs.ByTurns.{IsPrefixOf}
use Rattle.aud_cert.specs.Certificate.{CertificateSeen}
use Rattle.aud_check.specs.declared.certificate.Accepted as check
use Rattle.aud_check.specs.Faults.{positions_in}
use Rattle.aud_check.specs.Frames.{AreEntries}
use Rattle.aud_check.specs.Refusals.{IsMismatch, certificate_case}
use Rattle.aud_check.specs.Shown.{frames_received, turns_of, who_of}
use Rattle.aud_app.specs.declared.answer.Answer.{Answer}
use Rattle.aud_app.specs.declared.answer.Answer.TheVariants.{Accepted, Unread, Refused}

-- what the client received is a front of what is due to the certificate's session in the run: in its order, none left
-- out, none twice, none more
abbrev pub IsFrontIn : Cluster → CertificateSeen → List Step → Type 0
IsFrontIn c cert run = IsPrefixOf (positions_in (certificate_case c cert)) (due c run cert.pid)

-- what an accepted certificate says, with these counts: the client received what was due to the session over the turns
-- shown, whichever run happened
pub record IsDeliveredAsShown (c : Cluster) (cert : CertificateSeen) (counts : check.Accepted) : Type 0 where
  -- its turns are the session's, from turn 0 on
  pub are_turns : AreTurns c (who_of cert) 0 (turns_of c cert)
  -- each event received is the stream's entry at its position, byte for byte
  pub are_entries : AreEntries c.stream (frames_received c cert)
  -- in every run, the positions received are a front of those due
  pub is_front : (run : List Step) → IsRun c run → IsFrontIn c cert run
  -- where the turns are all of the session's: in every run, what was received and the tail are all that is due
  pub are_all : IsChain c (who_of cert) (turns_of c cert) → (run : List Step) → IsRun c run → counts.got + counts.tail ≡ length (due c run cert.pid)

-- what the answer says of every run: after ok, that all was delivered over the turns shown; after `EXTRA`, `DOUBLED`,
-- `SWAPPED` and `LOST` of a certificate of all turns, that in none it was. The other refusals say nothing of runs
abbrev pub AnswerHoldsInEveryRun : Cluster → CertificateSeen → Answer → Type 0
AnswerHoldsInEveryRun c cert (Accepted pid counts) = IsDeliveredAsShown c cert counts
AnswerHoldsInEveryRun c cert (Refused refusal) =
    IsMismatch refusal → IsChain c (who_of cert) (turns_of c cert) → (run : List Step) → IsRun c run → IsFrontIn c cert run → ⊥
AnswerHoldsInEveryRun c cert (Unread fault) = Unit {0}
