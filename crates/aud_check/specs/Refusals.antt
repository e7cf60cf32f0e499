-- What refuses a certificate, and which refusal comes first.
use Rattle.std.specs.Prelude.{◌≡◌, ◌<◌, ◌+◌, ◌*◌, ℕ, suc, true, false, length, drop, slice_get, Some}
use Rattle.aud_node.specs.Cluster.{Cluster}
use Rattle.aud_rooms.specs.Spans.{AreSpansOfTurns}
use Rattle.aud_cert.specs.Certificate.{CertificateSeen, TurnSeen}
use Rattle.aud_cert.specs.declared.fault.Fault.TheVariants.{Extra, Doubled, Swapped, Lost}
use Rattle.aud_check.specs.declared.refusal.Refusal.{Refusal}
use Rattle.aud_check.specs.declared.refusal.Refusal.TheVariants.{Span, Names, Received, Memory}
use Rattle.aud_check.specs.Shown.{who_of, slices_of, shown_due}
use Rattle.aud_check.specs.Client.{case_for}
use Rattle.aud_check.specs.NamedStays.{are_of_session}
use Rattle.aud_check.specs.Faults.{Case, HasFault, IsReceived}
use Rattle.aud_check.specs.TurnRefusals.{RefusesTurn, AreTurnsAccepted, refusal_rank}

-- what the certificate's session received, against what was due to it by the shown turns
abbrev pub certificate_case : Cluster → CertificateSeen → Case
certificate_case c cert = case_for c cert.client cert.pid (shown_due c cert)

-- what refuses a certificate as a whole
abbrev pub RefusesWhole : Cluster → CertificateSeen → Refusal → Type 0
RefusesWhole c cert Span = AreSpansOfTurns c.stream (who_of cert) (slices_of c cert) cert.spans → ⊥
RefusesWhole c cert Names = are_of_session (who_of cert) (certificate_case c cert).stays ≡ false
RefusesWhole c cert (Received fault) = HasFault (certificate_case c cert) fault
RefusesWhole c cert _ = ⊥

-- ---- the order

-- what a refusal is about: one of the turns, which count from 0, or the whole
pub data Place : Type 0 where
  AtTurn : ℕ → Place
  AtWhole : Place

-- what refuses the certificate there
abbrev pub Refuses : Cluster → CertificateSeen → Place → Refusal → Type 0
Refuses c cert (AtTurn k) refusal = (t : TurnSeen) × (slice_get cert.turns k ≡ Some t) × RefusesTurn c cert.pid k t (drop (suc k) cert.turns) refusal
Refuses c cert AtWhole refusal = RefusesWhole c cert refusal

-- the order in which refusals are looked for: the four of each turn, turn after turn, and then those of the whole
abbrev pub place_rank : CertificateSeen → Place → Refusal → ℕ
place_rank cert (AtTurn k) refusal = 4 * k + refusal_rank refusal
place_rank cert AtWhole refusal = 4 * length cert.turns + refusal_rank refusal

-- nothing of a lower rank refuses the certificate
abbrev pub RefuseNone : Cluster → CertificateSeen → ℕ → Type 0
RefuseNone c cert below = (place : Place) (refusal : Refusal) → place_rank cert place refusal < below → Refuses c cert place refusal → ⊥

-- of all that refuses the certificate this is the first
pub record RefusesFirst (c : Cluster) (cert : CertificateSeen) (refusal : Refusal) : Type 0 where
  pub place : Place
  pub refuses : Refuses c cert place refusal
  pub none_before : RefuseNone c cert (place_rank cert place refusal)

-- all that a certificate says is so
pub record IsAccepted (c : Cluster) (cert : CertificateSeen) : Type 0 where
  pub are_turns : AreTurnsAccepted c cert.pid cert.turns
  pub are_spans : AreSpansOfTurns c.stream (who_of cert) (slices_of c cert) cert.spans
  pub are_named : are_of_session (who_of cert) (certificate_case c cert).stays ≡ true
  pub is_received : IsReceived (certificate_case c cert)

-- it is the first refusal, unless memory ran out
abbrev pub IsFirstRefusal : Cluster → CertificateSeen → Refusal → Type 0
IsFirstRefusal c cert Memory = Unit {0}
IsFirstRefusal c cert refusal = RefusesFirst c cert refusal

-- it is about a received position that isn't the one due
abbrev pub IsMismatch : Refusal → Type 0
IsMismatch (Received (Extra off)) = Unit {0}
IsMismatch (Received (Doubled off)) = Unit {0}
IsMismatch (Received (Swapped off)) = Unit {0}
IsMismatch (Received (Lost off)) = Unit {0}
IsMismatch _ = ⊥
