use Rattle.std.proofs.Common.{◌≡◌, ◌++◌, map, take}
use Rattle.aud_input.specs.LineRuns.{lines_of_runs}
use Rattle.aud_reader.specs.declared.line.Line.{Line}
use Rattle.aud_parts.proofs.tap_index.tap_lines.push_numbers.Given as goal

-- the numbers so far
abbrev pub invariant-loop-line : goal.invariant-loop-line
invariant-loop-line l = lines_of_runs l.runs ≡ lines_of_runs l.initial.runs ++ map (λ (line : Line). line.number) (take l.line-index l.lines)
