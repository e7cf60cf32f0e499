use Rattle.std.proofs.Common.{◌≡◌, ◌+◌, false, vec_len, All}
use Rattle.aud_desk.specs.declared.tickets.Tickets.{Tickets}
use Rattle.aud_desk.specs.Workers.{IsWorkOf}
use Rattle.aud_desk.proofs.at_once.wait_for_all.Given as goal

abbrev pub invariant-loop-handle : goal.invariant-loop-handle
invariant-loop-handle g l = record {
  count : l.refused ≡ false → vec_len l.workers + vec_len l.handles ≡ vec_len l.fn.handles;
  work : (t : Tickets) (task : _) → All (λ h. (h.promise.tickets.now ≡ t) × (h.promise.task.now ≡ task)) l.fn.handles.items
      → All (λ h. (h.promise.tickets.now ≡ t) × (h.promise.task.now ≡ task)) l.handles.items × All (IsWorkOf t (g.T.Decide.is_verdict task)) l.workers.items;
}

abbrev pub decreases-loop-handle : goal.decreases-loop-handle
decreases-loop-handle g l = vec_len l.handles
