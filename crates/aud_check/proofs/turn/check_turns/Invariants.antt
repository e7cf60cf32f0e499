use Rattle.std.proofs.Common.{◌≡◌, ◌<◌, ℕ, suc, drop, Some, slice_get}
use Rattle.aud_cert.specs.Certificate.{TurnSeen}
use Rattle.aud_check.specs.TurnRefusals.{IsTurnAccepted}
use Rattle.aud_check.proofs.turn.check_turns.Given as goal

abbrev pub invariant-loop-number : goal.invariant-loop-number
invariant-loop-number l = (k : ℕ) (t : TurnSeen) → k < l.number → slice_get l.turns k ≡ Some t → IsTurnAccepted l.logs l.pid k t (drop (suc k) l.turns)
