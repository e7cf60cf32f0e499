use Rattle.std.proofs.Common.{◌≡◌, take}
use Rattle.aud_parts.proofs.servers.stream_named.Given as goal

-- those so far
abbrev pub invariant-loop-number : goal.invariant-loop-number
invariant-loop-number l = l.copy ≡ take l.number l.entries
