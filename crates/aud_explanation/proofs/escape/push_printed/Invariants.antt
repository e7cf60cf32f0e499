use Rattle.std.proofs.Common.{◌≡◌, ◌++◌, IsUtf8, string_bytes}
use Rattle.std.specs.Str.Iter.{chars_rest}
use Rattle.aud_explanation.specs.Printed.{printed}
use Rattle.aud_explanation.proofs.escape.push_printed.Given as goal

-- what is printed, with what is left, is all of it
abbrev pub invariant-loop-c : goal.invariant-loop-c
invariant-loop-c l = IsUtf8 (chars_rest l.c-iterator) × (string_bytes l.out ++ printed (chars_rest l.c-iterator) ≡ string_bytes l.fn.out ++ printed l.fn.text)
