use Rattle.std.proofs.Common.{◌≡◌, ◌++◌, IsUtf8, string_bytes}
use Rattle.std.specs.Str.Iter.{chars_rest}
use Rattle.aud_explanation.specs.Printed.{json_printed}
use Rattle.aud_explanation.proofs.escape.push_json_printed.Given as goal

-- what is printed, with what is left, is all of it
abbrev pub invariant-loop-c : goal.invariant-loop-c
invariant-loop-c l = IsUtf8 (chars_rest l.c-iterator) × (string_bytes l.out ++ json_printed (chars_rest l.c-iterator) ≡ string_bytes l.fn.out ++ json_printed l.fn.json)
