-- What refuses a turn, and what comes first.
use Rattle.std.proofs.Common.{◌≡◌, ◌<◌, ℕ, true, List, [], ◌∷◌, length, slice_get, sym, ap, arith, length-take, length-drop, true≢false}
use Rattle.aud_tap.specs.declared.records.NodeRec.{NodeRec}
use Rattle.aud_node.specs.Stream.{Text}
use Rattle.aud_node.specs.Lists.{between}
use Rattle.aud_node.specs.Cluster.{Cluster}
use Rattle.aud_cert.specs.Certificate.{TurnSeen}
use Rattle.aud_check.specs.declared.refusal.Refusal.{Refusal}
use Rattle.aud_check.specs.TurnRefusals.{is_begun_by, RefusesTurn, IsTurnAccepted}

module _ (c : Cluster) (pid : Text) (k : ℕ) (t : TurnSeen) (later : List TurnSeen) where
  -- nothing refuses an accepted turn
  pub not_refused : IsTurnAccepted c pid k t later → (refusal : Refusal) → RefusesTurn c pid k t later refusal → ⊥
  not_refused is refusal h = grind arith

-- a turn that begins has a record
pub begun-some : (pid : Text) (k : ℕ) (recs : List NodeRec) → is_begun_by pid k (slice_get recs 0) ≡ true → 0 < length recs
begun-some pid k [] h = absurd (true≢false (sym h))
begun-some pid k (rec ∷ recs) h = omega arith

-- records that there are stand in the log, and some number is between the two
module _ (log : List NodeRec) (from to : ℕ) (recs : List NodeRec) (are : recs ≡ between log from to) (some : 0 < length recs) where
  -- the first number is one of the log's
  pub from_within : from < length log
  from_within = omega (arith, simp (length-take, length-drop) at (ap length are))

  -- and it is before the second
  pub from_to : from < to
  from_to = omega (arith, simp (length-take, length-drop) at (ap length are))
