use Rattle.std.proofs.Common.{◌≡◌, ◌++◌, drop}
use Rattle.aud_parts.specs.Plan.{pids_in, pids_with}
use Rattle.aud_parts.proofs.plan.Plan.pids_in.Given as goal

-- the pids so far, and those to come
abbrev pub invariant-loop-number : goal.invariant-loop-number
invariant-loop-number l =
    l.pids.items ++ pids_with l.part (drop l.number l.self.sessions) (drop l.number l.self.parts.items) ≡ pids_in l.self l.part
