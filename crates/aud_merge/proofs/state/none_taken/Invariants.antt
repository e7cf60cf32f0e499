use Rattle.std.proofs.Common.{◌≡◌, map, take}
use Rattle.aud_merge.proofs.state.none_taken.Given as goal

abbrev pub invariant-loop : goal.invariant-loop
invariant-loop l = l.logs.items ≡ map (λ _. record { taken = 0; cursor = 0 }) (take l.index l.taps)
