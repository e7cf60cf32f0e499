use Rattle.std.proofs.Common.{◌≡◌, ◌++◌, take}
use Rattle.aud_parts.proofs.servers.push_named.Given as goal

-- those so far
abbrev pub invariant-loop-number : goal.invariant-loop-number
invariant-loop-number l = l.log ≡ l.initial.log ++ take l.number l.records
