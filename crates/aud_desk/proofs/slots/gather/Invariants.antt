use Rattle.std.proofs.Common.{◌≡◌, ◌≤◌, ◌<◌, ◌+◌, ℕ, All, Contains, vec_len}
use Rattle.aud_verdict.specs.declared.verdict.Verdict.{Verdict}
use Rattle.aud_desk.specs.declared.worker.Worker.{Worker}
use Rattle.aud_desk.specs.Draws.{late_count, times}
use Rattle.aud_desk.specs.Slots.{HasVerdict, IsFull}
use Rattle.aud_desk.specs.Views.{IsSeatOf, IsAllOf, all_drawn}
use Rattle.aud_desk.specs.Workers.{HasEntry}
use Rattle.aud_desk.proofs.slots.gather.Given as goal

abbrev pub invariant-loop-worker : goal.invariant-loop-worker
invariant-loop-worker l = record {
  mine : All (λ w. IsSeatOf l.tickets w.seat) l.workers.items;
  all : IsAllOf l.tickets l.all;
  enough : l.tickets.seats ≤ late_count l.tickets.n (all_drawn l.all) + vec_len l.workers;
  len : vec_len l.slots ≡ l.tickets.n;
  full : (i : ℕ) → i < l.tickets.n → 0 < times i (all_drawn l.all) → IsFull l.slots.items i;
  rest : (w : Worker) → Contains l.workers.items w → Contains l.fn.workers.items w;
  found : (i : ℕ) (verdict : Verdict) → HasVerdict l.slots.items i verdict → HasEntry l.fn.workers.items i verdict;
}

abbrev pub decreases-loop-worker : goal.decreases-loop-worker
decreases-loop-worker l = vec_len l.workers
