use Rattle.std.proofs.Common.{◌≡◌, ℕ, ◌<◌, ◌⊎◌, vec_len, All, Contains}
use Rattle.aud_desk.specs.declared.entry.Entry.{Entry}
use Rattle.aud_verdict.specs.declared.verdict.Verdict.{Verdict}
use Rattle.aud_desk.specs.Draws.{times}
use Rattle.aud_desk.specs.Slots.{HasVerdict, IsFull}
use Rattle.aud_desk.specs.Workers.{entry_of, indices}
use Rattle.aud_desk.proofs.slots.place.Given as goal

abbrev pub invariant-loop-entry : goal.invariant-loop-entry
invariant-loop-entry l = record {
  len : vec_len l.slots ≡ vec_len l.initial.slots;
  low : All (λ e. e.index < vec_len l.initial.slots) l.entries.items;
  rest : (e : Entry) → Contains l.entries.items e → Contains l.fn.entries.items e;
  found : (i : ℕ) (verdict : Verdict) → HasVerdict l.slots.items i verdict → HasVerdict l.initial.slots.items i verdict ⊎ Contains l.fn.entries.items (entry_of i verdict);
  kept : (i : ℕ) → IsFull l.initial.slots.items i → IsFull l.slots.items i;
  full : (i : ℕ) → 0 < times i (indices l.fn.entries.items) → (0 < times i (indices l.entries.items)) ⊎ IsFull l.slots.items i;
}

abbrev pub decreases-loop-entry : goal.decreases-loop-entry
decreases-loop-entry l = vec_len l.entries
