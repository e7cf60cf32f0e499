-- What an accepted certificate says of every run, and a mismatch.
use Rattle.std.proofs.Common.{arith, ◌≡◌, List, map, Some, subst}
use Rattle.aud_node.specs.Cluster.{Cluster}
use Rattle.aud_rooms.specs.Turns.{Who, Turn, AreTurns, IsChain, slice_of}
use Rattle.aud_rooms.specs.TurnsDue.{turns_due}
use Rattle.aud_merge.specs.declared.step.Step.{Step}
use Rattle.aud_merge.specs.Runs.{IsRun}
use Rattle.aud_merge.specs.Due.{due}
use Rattle.aud_merge.specs.ByTurns.{IsPrefixOf}
use Rattle.aud_cert.specs.Certificate.{CertificateSeen, IsOver}
use Rattle.aud_cert.specs.declared.fault.Fault.{Fault}
use Rattle.aud_check.specs.declared.refusal.Refusal.{Refusal}
use Rattle.aud_check.specs.declared.refusal.Refusal.TheVariants.{Received}
use Rattle.aud_check.specs.Faults.{HasFault, difference_fault, positions_in}
use Rattle.aud_check.specs.Shown.{who_of, turns_of, shown_due}
use Rattle.aud_check.specs.TurnRefusals.{AreTurnsAccepted}
use Rattle.aud_check.specs.Refusals.{Place, AtTurn, AtWhole, Refuses, RefusesFirst, IsFirstRefusal, IsMismatch, certificate_case}
use Rattle.aud_check.proofs.AcceptedTurns.{all_accepted, are_turns}
use Rattle.aud_check.proofs.Prefixes.{prefix_of_prefix}
use Rattle.aud_check.proofs.Ranks.{not_different}
use Rattle.aud_check.proofs.Agreed.{difference-none}

module _ (c : Cluster) (cert : CertificateSeen) where
  -- the received positions are a prefix of what is due in every run
  pub in_every_run : ((c : Cluster) (run : List Step) (who : Who) (turns : List Turn) → IsRun c run → AreTurns c who 0 turns → IsPrefixOf (turns_due c.stream who (map (slice_of c) turns)) (due c run who.pid))
      → IsOver c cert → AreTurnsAccepted c cert.pid cert.turns → IsPrefixOf (positions_in (certificate_case c cert)) (shown_due c cert)
      → (run : List Step) → IsRun c run → IsPrefixOf (positions_in (certificate_case c cert)) (due c run cert.pid)
  in_every_run law over accepted prefix run is =
      prefix_of_prefix (positions_in (certificate_case c cert)) (shown_due c cert) (due c run cert.pid) prefix
      (law c run (who_of cert) (turns_of c cert) is (are_turns c cert over (all_accepted c cert.pid cert.turns accepted)))

  -- a fault that is the first refusal holds
  holds : (f : Fault) → RefusesFirst c cert (Received f) → HasFault (certificate_case c cert) f
  holds f is = go is.place is.refuses
    where
      go : (place : Place) → Refuses c cert place (Received f) → HasFault (certificate_case c cert) f
      go (AtTurn k) (t, at, h) = absurd h
      go AtWhole h = h

  -- where a mismatch is refused, it is the fault
  refused_mismatch : (refusal : Refusal) → IsMismatch refusal → RefusesFirst c cert refusal → (f : Fault) × (difference_fault (certificate_case c cert) ≡ Some f)
  refused_mismatch refusal about is = grind (arith, holds)

  -- of the whole chain, a mismatch says that in no run they are
  pub in_no_run : (refusal : Refusal) → RefusesFirst c cert refusal → IsMismatch refusal
      → ((c : Cluster) (run : List Step) (who : Who) (turns : List Turn) → IsRun c run → IsChain c who turns → due c run who.pid ≡ turns_due c.stream who (map (slice_of c) turns))
      → IsChain c (who_of cert) (turns_of c cert) → (run : List Step) → IsRun c run → IsPrefixOf (positions_in (certificate_case c cert)) (due c run cert.pid) → ⊥
  in_no_run refusal is about law chain run of_logs prefix =
      let (f, found) = refused_mismatch refusal about is in
      let same = law c run (who_of cert) (turns_of c cert) of_logs chain in
      not_different (certificate_case c cert) ((difference-none (positions_in (certificate_case c cert)) (shown_due c cert)).1 (subst (IsPrefixOf (positions_in (certificate_case c cert))) same prefix)) f found

-- a mismatch is no running out of memory
pub first_of_all : (c : Cluster) (cert : CertificateSeen) (refusal : Refusal) → IsMismatch refusal → IsFirstRefusal c cert refusal → RefusesFirst c cert refusal
first_of_all c cert refusal about is = grind arith
