use Rattle.std.proofs.Common.{◌≡◌, ◌++◌, drop}
use Rattle.aud_input.specs.LineRuns.{numbers_named}
use Rattle.aud_input.proofs.tap_lines.push_named.Given as goal

-- those so far, with those of the lines that are left, are those of all
abbrev pub invariant-loop-number : goal.invariant-loop-number
invariant-loop-number l = l.named.items ++ numbers_named l.lines (drop l.number-index l.numbers) ≡ l.fn.named.items ++ numbers_named l.lines l.numbers
