use Rattle.std.proofs.Common.{◌≡◌, ◌≤◌, take, count_by}
use Rattle.aud_explain_app.specs.Summary.Counts.{is_unobserved}
use Rattle.aud_explain_app.proofs.summary.counts.count_unobserved.Given as goal

abbrev pub invariant-loop-verdict : goal.invariant-loop-verdict
invariant-loop-verdict l =
    record {
      within : l.count ≤ l.verdict-index;
      counted : l.count ≡ count_by (is_unobserved l.recording) (take l.verdict-index l.verdicts);
    }
