use Rattle.std.proofs.Common.{◌≡◌, ◌++◌, take, string_bytes}
use Rattle.aud_explanation.specs.Span.{line_word, listed}
use Rattle.aud_explanation.proofs.text.span.push_lines.Given as goal

-- the word, and the numbers so far
abbrev pub invariant-loop-number : goal.invariant-loop-number
invariant-loop-number l = string_bytes l.out ≡ string_bytes l.fn.out ++ (line_word l.lines ++ listed (take l.number-index l.lines))
