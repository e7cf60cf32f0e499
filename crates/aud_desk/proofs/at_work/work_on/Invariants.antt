use Rattle.std.proofs.Common.{◌≡◌, ◌-◌}
use Rattle.aud_desk.specs.Draws.{below, past_all}
use Rattle.aud_desk.specs.Views.{IsSeatOf, drawn}
use Rattle.aud_desk.specs.Workers.{HaveVerdicts, indices}
use Rattle.aud_desk.proofs.at_work.work_on.Given as goal

abbrev pub invariant-loop-index : goal.invariant-loop-index
invariant-loop-index g l = record {
  seat : IsSeatOf l.tickets l.seat;
  each : indices l.entries.items ≡ below l.tickets.n (drawn l.seat);
  verdicts : HaveVerdicts (g.T.Decide.is_verdict l.task) l.entries.items;
}

abbrev pub decreases-loop-index : goal.decreases-loop-index
decreases-loop-index g l = l.tickets.n - past_all (drawn l.seat)
