-- What the check of turns answers.
use Rattle.std.specs.Prelude.{◌≡◌, ◌<◌, ℕ, suc, List, drop, slice_get, Some}
use Rattle.aud_node.specs.Stream.{Text}
use Rattle.aud_node.specs.Cluster.{Cluster}
use Rattle.aud_cert.specs.Certificate.{TurnSeen}
use Rattle.aud_check.specs.declared.refusal.Refusal.{Refusal}
use Rattle.aud_check.specs.TurnRefusals.{RefusesTurn, IsTurnAccepted, refusal_rank}

-- of all that refuses the turn this is the first
pub record IsFirstOfTurn (c : Cluster) (pid : Text) (k : ℕ) (t : TurnSeen) (later : List TurnSeen) (refusal : Refusal) : Type 0 where
  pub refuses : RefusesTurn c pid k t later refusal
  pub none_before : (other : Refusal) → refusal_rank other < refusal_rank refusal → RefusesTurn c pid k t later other → ⊥

-- of all that refuses the turns this is the first: the turns in front are accepted
pub record IsFirstOfTurns (c : Cluster) (pid : Text) (turns : List TurnSeen) (refusal : Refusal) : Type 0 where
  pub number : ℕ
  pub turn : TurnSeen
  pub stands : slice_get turns number ≡ Some turn
  pub is_first : IsFirstOfTurn c pid number turn (drop (suc number) turns) refusal
  pub accepted : (k : ℕ) (t : TurnSeen) → k < number → slice_get turns k ≡ Some t → IsTurnAccepted c pid k t (drop (suc k) turns)
