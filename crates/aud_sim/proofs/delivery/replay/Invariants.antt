use Rattle.std.proofs.Common.{◌≡◌, ◌-◌}
use Rattle.aud_sim.specs.Delivery.{replayed}
use Rattle.aud_sim.proofs.delivery.replay.Given as goal

abbrev pub invariant-loop-before : goal.invariant-loop-before
invariant-loop-before l =
    replayed l.entries l.before (l.to - l.before) (record { lines = l.bundle; client = l.client })
    ≡ replayed l.entries l.from (l.to - l.from) (record { lines = l.initial.bundle; client = l.initial.client })
