-- The certificates of sessions, by what was made for each.
use Rattle.std.proofs.Common.{false, List, Option, Result, Ok, Err, sym, subst}
use Rattle.std.specs.List.{All}
use Rattle.aud_node.specs.Stream.{Text}
use Rattle.aud_node.specs.Cluster.{Cluster}
use Rattle.aud_cert.specs.declared.fault.Fault.{Fault}
use Rattle.aud_cert.specs.Certificate.{CertificateSeen}
use Rattle.aud_maker.specs.Faults.{IsFirstMakeFault}
use Rattle.aud_maker.specs.Made.{IsMade}
use Rattle.aud_maker.specs.Makings.{IsMadeOf, AreMadeOf}
use Rattle.aud_base.specs.OneForEach.{OneForEach}
use Rattle.aud_verdict.specs.declared.verdict.Verdict.TheVariants.{No}
use Rattle.aud_base.proofs.EachLemmas.{by_way_of, each-All}
use Rattle.aud_verdict.specs.Verdict.{IsVerdict}
use Rattle.aud_app.specs.Proofs.{IsProof, AreProofs}
use Rattle.aud_app.specs.Private.Proven.{IsOfItsSession, IsProofBy}

-- a certificate names the session that it was made for
of_its_session : (c : Cluster) (pid : Text) (made : Result CertificateSeen Fault) → IsMadeOf c pid made → IsOfItsSession c made
of_its_session c pid (Ok cert) is = subst (λ p. IsMade c p cert) (sym is.0.is.pid_is) is.0
of_its_session c pid (Err fault) is = tt

-- so each does
pub of_their_sessions : (c : Cluster) (pids : List Text) (all : List (Result CertificateSeen Fault)) → AreMadeOf c pids all → All (IsOfItsSession c) all
of_their_sessions c pids all are = each-All (IsMadeOf c) (IsOfItsSession c) (of_its_session c) pids all are

module _ (c : Cluster) (not_made : (pid : Text) (fault : Fault) → IsFirstMakeFault c pid fault → IsVerdict c false pid (No fault)) where
  -- what is proven by what was made for a session is the session's
  of_session : (pid : Text) (made : Result CertificateSeen Fault) (proof : Option Text) → IsMadeOf c pid made → IsProofBy c made proof → IsProof c pid proof
  of_session pid (Ok cert) proof is by = subst (λ p. IsProof c p proof) is.0.is.pid_is by
  of_session pid (Err fault) proof is none = subst (IsProof c pid) (sym none) (fault, not_made pid fault is)

  -- so of all of them
  pub of_sessions : (pids : List Text) (all : List (Result CertificateSeen Fault)) (proofs : List (Option Text)) → AreMadeOf c pids all
      → OneForEach (IsProofBy c) all proofs → AreProofs c pids proofs
  of_sessions pids all proofs are by = by_way_of (IsMadeOf c) (IsProofBy c) (IsProof c) of_session pids all proofs are by
