use Rattle.std.proofs.Common.{◌≡◌, ◌≤◌, ◌^◌, ◌-◌, count_by, min, sum_by, take}
use Rattle.aud_explain_app.specs.Summary.Counts.{has_tail, tail_of}
use Rattle.aud_explain_app.proofs.summary.counts.tails_in.Given as goal

abbrev pub invariant-loop-verdict : goal.invariant-loop-verdict
invariant-loop-verdict l =
    record {
      within : l.sessions ≤ l.verdict-index;
      counted : l.sessions ≡ count_by has_tail (take l.verdict-index l.verdicts);
      summed : l.events ≡ min (sum_by tail_of (take l.verdict-index l.verdicts)) (2 ^ 64 - 1);
    }
