use Rattle.std.proofs.Common.{◌≡◌, ◌≤◌, length, take, filter}
use Rattle.aud_session_facts.specs.Recoveries.{is_granted}
use Rattle.aud_session_facts.proofs.counts.granted.Given as goal

abbrev pub invariant-loop-recovery : goal.invariant-loop-recovery
invariant-loop-recovery l =
    record {
      within : l.count ≤ l.recovery-index;
      counted : l.count ≡ length (filter is_granted (take l.recovery-index l.recoveries));
    }
