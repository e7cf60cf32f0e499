use Rattle.std.proofs.Common.{◌≤◌, ◌+◌}
use Rattle.layer_tests.proofs.bundles.lines.lines_of_bytes.Given as goal

abbrev pub invariant-loop-byte : goal.invariant-loop-byte
invariant-loop-byte l = record { number : l.splitter.number ≤ 1 + l.byte-index }
