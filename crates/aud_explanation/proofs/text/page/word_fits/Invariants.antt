use Rattle.std.proofs.Common.{◌≡◌, ◌≤◌, length, drop}
use Rattle.std.specs.Str.{chars}
use Rattle.aud_explanation.specs.Page.{word_fits}
use Rattle.aud_explanation.proofs.text.page.word_fits.Given as goal

-- the word so far fits, and what is left decides
abbrev pub invariant-loop-c : goal.invariant-loop-c
invariant-loop-c l = (l.column ≤ 101) × (word_fits l.column (drop (length l.yielded) (chars l.text)) ≡ word_fits l.fn.column (chars l.text))
