use Rattle.std.proofs.Common.{◌≡◌, ℕ, vec_len}
use Rattle.aud_verdict.specs.declared.verdict.Verdict.{Verdict}
use Rattle.aud_desk.specs.Slots.{HasVerdict}
use Rattle.aud_desk.proofs.slots.places.Given as goal

abbrev pub invariant-loop : goal.invariant-loop
invariant-loop l = record {
  len : vec_len l.slots ≡ l.counter;
  empty : (i : ℕ) (verdict : Verdict) → HasVerdict l.slots.items i verdict → ⊥;
}
