use Rattle.std.proofs.Common.{◌≡◌, ◌≤◌, take}
use Rattle.aud_causes.specs.Refusals.{count_asks}
use Rattle.aud_causes.proofs.refusal.count_asks.Given as goal

abbrev pub invariant-loop-stay : goal.invariant-loop-stay
invariant-loop-stay l =
    record {
      within : l.count ≤ l.stay-index;
      counted : l.count ≡ count_asks l.pid (take l.stay-index l.stays);
    }
