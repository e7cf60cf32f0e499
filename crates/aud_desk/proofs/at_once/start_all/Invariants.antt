use Rattle.std.proofs.Common.{◌≡◌, ◌+◌, ◌≤◌, [], vec_len, vec_capacity, All}
use Rattle.aud_desk.specs.Views.{IsSeatOf, drawn}
use Rattle.aud_desk.proofs.at_once.start_all.Given as goal

abbrev pub invariant-loop-seat : goal.invariant-loop-seat
invariant-loop-seat g l = record {
  seats : All (λ s. IsSeatOf l.tickets s × (drawn s ≡ [])) l.seats.items;
  count : vec_len l.handles + vec_len l.seats ≡ vec_len l.fn.seats;
  room : vec_len l.fn.seats ≤ vec_capacity l.handles;
  jobs : All (λ h. (h.promise.tickets.now ≡ l.tickets) × (h.promise.task.now ≡ l.task)) l.handles.items;
}

abbrev pub decreases-loop-seat : goal.decreases-loop-seat
decreases-loop-seat g l = vec_len l.seats
