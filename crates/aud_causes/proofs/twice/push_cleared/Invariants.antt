use Rattle.std.proofs.Common.{◌≡◌, ◌++◌, flat_map, option_to_list, take}
use Rattle.aud_causes.specs.Cleared.{cleared_on}
use Rattle.aud_causes.proofs.twice.push_cleared.Given as goal

-- those on the nodes so far come after what was there
abbrev pub invariant-loop-node : goal.invariant-loop-node
invariant-loop-node l = l.found.items ≡ l.initial.found.items ++ flat_map (λ node. option_to_list (cleared_on l.logs l.pid node)) (take l.node-index l.node-items)
