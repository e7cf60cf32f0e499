use Rattle.std.proofs.Common.{◌-◌, ◌≤◌, length, take, drop}
use Rattle.aud_json.proofs.Strings.{Passed}
use Rattle.aud_json.proofs.unescape.unescape.Given as goal

abbrev pub invariant-whole : goal.invariant-whole
invariant-whole l = record { passed : Passed l.bytes (take l.to l.room) (drop l.from l.bytes); behind : l.to ≤ l.from; within : l.from ≤ length l.bytes }

abbrev pub decreases-whole : goal.decreases-whole
decreases-whole l = length l.bytes - l.from

abbrev pub invariant-rest : goal.invariant-rest
invariant-rest l = record { passed : Passed l.bytes (take l.to l.room) (drop l.from l.bytes); behind : l.to ≤ l.from; within : l.from ≤ length l.bytes }

abbrev pub decreases-rest : goal.decreases-rest
decreases-rest l = length l.bytes - l.from
