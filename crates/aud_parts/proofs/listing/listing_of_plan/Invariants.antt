use Rattle.std.proofs.Common.{◌≡◌, map, take, length, true}
use Rattle.std.specs.List.{list_all}
use Rattle.std.specs.Prelude.{nat_lt}
use Rattle.aud_parts.specs.declared.listing.ListedSession.{ListedSession}
use Rattle.aud_parts.proofs.listing.listing_of_plan.Given as goal

-- the sessions so far are the first of the plan's, each of one of its parts
abbrev pub invariant-loop-number : goal.invariant-loop-number
invariant-loop-number l = record {
  pids : map (λ (s : ListedSession). s.pid) l.sessions.items ≡ take l.number l.plan.sessions;
  parts : map (λ (s : ListedSession). s.part) l.sessions.items ≡ take l.number l.plan.parts.items;
  within : list_all (λ (s : ListedSession). nat_lt s.part (length l.plan.weights.items)) l.sessions.items ≡ true;
}
