use Rattle.std.proofs.Common.{◌≡◌, ◌++◌, string_bytes, take}
use Rattle.aud_explain_app.specs.Summary.Text.{numbers_seen}
use Rattle.aud_explain_app.proofs.summary.text.push_numbers.Given as goal

abbrev pub invariant-loop-words : goal.invariant-loop-words
invariant-loop-words l = string_bytes l.out ≡ string_bytes l.fn.out ++ numbers_seen (take l.words-index l.numbers)
