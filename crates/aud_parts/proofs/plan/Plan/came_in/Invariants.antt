use Rattle.std.proofs.Common.{◌≡◌, ◌++◌, drop}
use Rattle.aud_parts.specs.Plan.{came_in, came_with}
use Rattle.aud_parts.proofs.plan.Plan.came_in.Given as goal

-- what came so far, and what is to come
abbrev pub invariant-loop-number : goal.invariant-loop-number
invariant-loop-number l =
    l.came.items ++ came_with l.part (drop l.number l.clients) (drop l.number l.self.clients.items) ≡ came_in l.self l.clients l.part
