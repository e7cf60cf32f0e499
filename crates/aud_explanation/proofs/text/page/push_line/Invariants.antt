use Rattle.std.proofs.Common.{◌≡◌, ◌++◌, ◌≤◌, string_bytes, length}
use Rattle.std.specs.Str.{chars, IsUtf8}
use Rattle.aud_explanation.specs.Page.{laid}
use Rattle.aud_explanation.proofs.text.page.push_line.Given as goal

-- the line so far, and what is left laid out from the column that it has come to
abbrev pub invariant-loop-characters : goal.invariant-loop-characters
invariant-loop-characters l = record {
  within : l.column ≤ 100;
  utf8 : IsUtf8 l.left;
  text : string_bytes l.out ++ laid l.column (chars l.left) ≡ string_bytes l.fn.out ++ laid 0 (chars l.line);
}

-- how much is left
abbrev pub decreases-loop-characters : goal.decreases-loop-characters
decreases-loop-characters l = length l.left
