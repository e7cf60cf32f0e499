use Rattle.std.proofs.Common.{◌≡◌, ◌++◌, ◌≤◌, ℕ, List, drop, false, length}
use Rattle.std.specs.List.{AllByRecursion}
use Rattle.aud_reader.specs.Lines.{has_newline}
use Rattle.aud_writer.specs.WrittenBundle.{ended}
use Rattle.aud_parts.proofs.part.server_text.after_lines.Given as goal

-- the lines that are left, and what stands after them
abbrev pub invariant-loop-line : goal.invariant-loop-line
invariant-loop-line l = record {
  rest : (lines : List (List ℕ)) (rest : List ℕ) → AllByRecursion (λ line. has_newline line ≡ false) lines → length lines ≡ l.count
      → l.bytes ≡ ended lines ++ rest → l.left ≡ ended (drop l._line lines) ++ rest;
  within : length l.left ≤ length l.bytes;
}
