use Rattle.std.proofs.Common.{◌≡◌, ◌≤◌, take, count_by}
use Rattle.aud_node.specs.Recoverable.{is_recoverable}
use Rattle.aud_explain_app.proofs.summary.counts.entries_in.Given as goal

abbrev pub invariant-loop-before : goal.invariant-loop-before
invariant-loop-before l =
    record {
      within : l.recoverable ≤ l.before;
      counted : l.recoverable ≡ count_by is_recoverable (take l.before l.stream);
    }
