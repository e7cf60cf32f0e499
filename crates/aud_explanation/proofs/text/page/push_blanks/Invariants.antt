use Rattle.std.proofs.Common.{◌≡◌, ◌++◌, string_bytes}
use Rattle.aud_explanation.specs.Page.{blanks}
use Rattle.aud_explanation.proofs.text.page.push_blanks.Given as goal

-- the blanks so far
abbrev pub invariant-loop-i : goal.invariant-loop-i
invariant-loop-i l = string_bytes l.out ≡ string_bytes l.fn.out ++ blanks l._i
