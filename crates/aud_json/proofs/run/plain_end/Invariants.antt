use Rattle.std.proofs.Common.{◌≡◌, ◌+◌, ◌-◌, ◌≤◌, length, drop}
use Rattle.std.specs.List.{prefix_len}
use Rattle.json.specs.Run.{is_plain}
use Rattle.aud_json.proofs.run.plain_end.Given as goal

abbrev pub invariant-whole : goal.invariant-whole
invariant-whole l = (prefix_len is_plain l.bytes ≡ l.i + prefix_len is_plain (drop l.i l.bytes)) × (l.i ≤ length l.bytes)

abbrev pub decreases-whole : goal.decreases-whole
decreases-whole l = length l.bytes - l.i

abbrev pub invariant-rest : goal.invariant-rest
invariant-rest l = (prefix_len is_plain l.bytes ≡ l.i + prefix_len is_plain (drop l.i l.bytes)) × (l.i ≤ length l.bytes)

abbrev pub decreases-rest : goal.decreases-rest
decreases-rest l = length l.bytes - l.i
