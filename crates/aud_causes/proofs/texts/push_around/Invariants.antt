use Rattle.std.proofs.Common.{◌≡◌, ◌++◌, IsUtf8, string_bytes}
use Rattle.std.specs.Str.Iter.{char_indices_offset, char_indices_rest}
use Rattle.aud_causes.specs.Texts.{around}
use Rattle.aud_causes.proofs.texts.push_around.Given as goal

-- what is shown so far, with what is left to show, is all of it
abbrev pub invariant-loop-place : goal.invariant-loop-place
invariant-loop-place l =
    IsUtf8 (char_indices_rest l.place-iterator)
    × (string_bytes l.out ++ around l.at (char_indices_offset l.place-iterator) (char_indices_rest l.place-iterator)
    ≡ string_bytes l.fn.out ++ around l.at 0 l.fn.text)
