-- Accepted turns are turns of the session.
use Rattle.aud_base.proofs.SameText.{same_text}
use Rattle.std.proofs.lemmas.Bool.Decides.{nat_tests}
use Rattle.std.proofs.Common.{◌≡◌, ◌<◌, ◌+◌, ℕ, suc, true, List, [], ◌∷◌, map, length, drop, Some, slice_get, refl, sym, ap, subst, ◌∙◌, arith}
use Rattle.std.specs.List.{All}
use Rattle.std.proofs.lemmas.List.Elements.{All-head, All-tail, All-nil, All-cons}
use Rattle.aud_tap.specs.declared.records.NodeRec.{NodeRec}
use Rattle.aud_tap.specs.declared.records.NodeRec.TheVariants.{Opened, Back}
use Rattle.aud_node.specs.Lists.{between}
use Rattle.aud_node.specs.Stream.{Text}
use Rattle.aud_node.specs.Cluster.{Cluster}
use Rattle.aud_node.specs.TurnRecords.{begins_turn}
use Rattle.aud_rooms.specs.Turns.{Who, IsTurn, AreTurns, beginning, turn_end}
use Rattle.aud_cert.specs.Certificate.{TurnSeen, CertificateSeen, IsTurnOver, turn_at, log_named}
use Rattle.aud_rooms.specs.TurnPlaces.{IsInOrder}
use Rattle.aud_rooms.specs.TurnsDue.{greatest_high}
use Rattle.aud_rooms.specs.Spans.{first_low}
use Rattle.aud_check.specs.Shown.{opened_sid, opened_nsp, who_in, who_of, slices_at}
use Rattle.aud_check.specs.Private.ShownBounds.{first_shown_low, greatest_shown_high}
use Rattle.aud_check.specs.TurnRefusals.{is_begun_by, IsTurnAccepted, AreTurnsAccepted}
use Rattle.aud_base.proofs.Lists.{element_at, between-more}
use Rattle.aud_check.proofs.TurnRefusals.{begun-some, from_within, from_to}

-- the session's `open` as the turn's first record
opens : (pid : Text) (rec : NodeRec) → begins_turn pid 0 rec ≡ true → rec ≡ Opened pid (opened_sid (Some rec)) (opened_nsp (Some rec))
opens pid rec e = grind (arith, λ (other : Text). same_text other pid)

-- its `back` as a later turn's
comes_back : (pid : Text) (k : ℕ) (rec : NodeRec) → begins_turn pid (suc k) rec ≡ true → rec ≡ Back pid (suc k)
comes_back pid k rec e = grind (arith, nat_tests, λ (other : Text). same_text other pid)

module _ (c : Cluster) (pid : Text) (k : ℕ) (t : TurnSeen) (later : List TurnSeen) (over : IsTurnOver c t) (is : IsTurnAccepted c pid k t later) where
  -- it has records
  some_recs : 0 < length t.recs
  some_recs = begun-some pid k t.recs is.begins

  -- its numbers are in order
  pub below : t.from < t.to
  below = from_to (log_named c t.node) t.from t.to t.recs over some_recs

  -- its first record stands in the log
  pub inside : t.from < length (log_named c t.node)
  inside = from_within (log_named c t.node) t.from t.to t.recs over some_recs

  -- this record
  pub first : (rec : NodeRec) × (slice_get (log_named c t.node) t.from ≡ Some rec)
  first = element_at (log_named c t.node) t.from inside

  -- its records are this one and those after it
  recs_are : t.recs ≡ first.0 ∷ between (log_named c t.node) (suc t.from) t.to
  recs_are = over ∙ between-more (log_named c t.node) t.from t.to first.0 below first.1

  -- the first record begins the turn
  pub begins : begins_turn pid k first.0 ≡ true
  begins = sym (ap (λ recs. is_begun_by pid k (slice_get recs 0)) recs_are) ∙ is.begins

  -- it is the first of the turn's records
  pub first_of_recs : slice_get t.recs 0 ≡ Some first.0
  first_of_recs = ap (λ recs. slice_get recs 0) recs_are

  -- the turn stands in an ordered log
  pub in_order : IsInOrder c (turn_at c t)
  in_order = record { is_within = record { some = below; within = is.ends.within }; ordered = is.cursors.ordered }

  -- a turn of the session, where its first record is the one that begins it
  pub is_turn : (who : Who) → who.pid ≡ pid → first.0 ≡ beginning who k → IsTurn c who k (turn_at c t) (map (turn_at c) later)
  is_turn who same begun =
      record {
        within = is.ends.within;
        some = below;
        begins = first.1 ∙ ap Some begun;
        end = is.ends.end;
        ends =
            ap (λ p. turn_end p k (between (log_named c t.node) (suc t.from) t.to)) same
            ∙ sym (ap (λ recs. turn_end pid k (drop 1 recs)) recs_are)
            ∙ is.ends.is_end;
        may_end = is.ends.may_end;
      }

-- accepted turns, the first of which has this number
abbrev pub AcceptedFrom : Cluster → Text → ℕ → List TurnSeen → Type 0
AcceptedFrom c pid k [] = Unit {0}
AcceptedFrom c pid k (t ∷ later) = IsTurnAccepted c pid k t later × AcceptedFrom c pid (suc k) later

-- turns that are each accepted are accepted one after the other
pub accepted_from : (c : Cluster) (pid : Text) (turns : List TurnSeen) (k : ℕ)
    → ((i : ℕ) (t : TurnSeen) → slice_get turns i ≡ Some t → IsTurnAccepted c pid (k + i) t (drop (suc i) turns)) → AcceptedFrom c pid k turns
accepted_from c pid [] k all = tt
accepted_from c pid (t ∷ later) k all =
    let here : k + 0 ≡ k = omega arith in (
      subst (λ n. IsTurnAccepted c pid n t later) here (all 0 t refl),
      accepted_from c pid later (suc k) (λ i s at. let next : k + suc i ≡ suc k + i = omega arith in subst (λ n. IsTurnAccepted c pid n s (drop (suc i) later)) next (all (suc i) s at)),
    )

-- the same, from turn 0 on
pub all_accepted : (c : Cluster) (pid : Text) (turns : List TurnSeen) → AreTurnsAccepted c pid turns → AcceptedFrom c pid 0 turns
all_accepted c pid turns all =
    accepted_from c pid turns 0 (λ i t at. let same : i ≡ 0 + i = omega arith in subst (λ n. IsTurnAccepted c pid n t (drop (suc i) turns)) same (all i t at))

-- they stand in ordered logs
pub all_in_order : (c : Cluster) (pid : Text) (k : ℕ) (turns : List TurnSeen) → All (IsTurnOver c) turns → AcceptedFrom c pid k turns → All (IsInOrder c) (map (turn_at c) turns)
all_in_order c pid k [] over all = All-nil (IsInOrder c)
all_in_order c pid k (t ∷ later) over (first, others) =
    All-cons (IsInOrder c) (turn_at c t) (map (turn_at c) later)
    (in_order c pid k t later (All-head (IsTurnOver c) t later over) first)
    (all_in_order c pid (suc k) later (All-tail (IsTurnOver c) t later over) others)

-- later turns are turns of the session
later_turns : (c : Cluster) (who : Who) (k : ℕ) (turns : List TurnSeen) → All (IsTurnOver c) turns → AcceptedFrom c who.pid (suc k) turns → AreTurns c who (suc k) (map (turn_at c) turns)
later_turns c who k [] over all = tt
later_turns c who k (t ∷ later) over (is, others) =
    let here = All-head (IsTurnOver c) t later over in (
      is_turn c who.pid (suc k) t later here is who refl (comes_back who.pid k (first c who.pid (suc k) t later here is).0 (begins c who.pid (suc k) t later here is)),
      later_turns c who (suc k) later (All-tail (IsTurnOver c) t later over) others,
    )

-- accepted turns are turns of the session that their `open` names
turns_named : (c : Cluster) (pid : Text) (turns : List TurnSeen) → All (IsTurnOver c) turns → AcceptedFrom c pid 0 turns → AreTurns c (who_in pid turns) 0 (map (turn_at c) turns)
turns_named c pid [] over all = tt
turns_named c pid (t ∷ later) over (is, others) =
    let here = All-head (IsTurnOver c) t later over in
    let opened = opens pid (first c pid 0 t later here is).0 (begins c pid 0 t later here is) in
    let same = first_of_recs c pid 0 t later here is in
    let begun = opened ∙ ap (λ o. Opened pid (opened_sid o) (opened_nsp o)) (sym same) in (
      is_turn c pid 0 t later here is (who_in pid (t ∷ later)) refl begun,
      later_turns c (who_in pid (t ∷ later)) 0 later (All-tail (IsTurnOver c) t later over) others,
    )

-- the turns of an accepted certificate
pub are_turns : (c : Cluster) (cert : CertificateSeen) → All (IsTurnOver c) cert.turns → AcceptedFrom c cert.pid 0 cert.turns → AreTurns c (who_of cert) 0 (map (turn_at c) cert.turns)
are_turns c cert over all = turns_named c cert.pid cert.turns over all

-- where accepted turns start, and how far they reach
pub lows : (c : Cluster) (pid : Text) (k : ℕ) (turns : List TurnSeen) → AcceptedFrom c pid k turns → first_shown_low turns ≡ first_low (slices_at c turns)
lows c pid k [] all = refl
lows c pid k (t ∷ later) (is, others) = is.cursors.low_is

-- the greatest high that accepted turns show is that of their slices
pub highs : (c : Cluster) (pid : Text) (k : ℕ) (turns : List TurnSeen) → AcceptedFrom c pid k turns → greatest_shown_high turns ≡ greatest_high (slices_at c turns)
highs c pid k [] all = refl
highs c pid k (t ∷ later) (is, others) = grind (arith, is, highs c pid (suc k) later others)
