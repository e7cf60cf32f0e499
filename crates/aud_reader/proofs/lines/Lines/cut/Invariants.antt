use Rattle.std.proofs.Common.{◌≡◌, ◌+◌, ◌≤◌, ◌++◌, List, ℕ, length}
use Rattle.aud_reader.specs.Lines.{IsFront, lines_to_come}
use Rattle.aud_reader.specs.Private.Bounds.{AreWithin, lines_at}
use Rattle.aud_reader.specs.Private.SplitterSteps.{at_line}
use Rattle.aud_reader.proofs.lines.Lines.cut.Given as goal

-- what is left stands at the end of the block, and gives with the lines so far what the text does
abbrev pub invariant-lines : goal.invariant-lines
invariant-lines l = record {
  bytes : l.self-inside.bytes ≡ l.initial.self-inside.bytes;
  stands : (done : List ℕ) × (l.self-inside.bytes.items ≡ done ++ l.left);
  within : AreWithin l.self-inside.bytes.items l.self-inside.bounds.items;
  number : l.begun + length l.left ≤ l.number + length l.text;
  kept : IsFront l.fn.self (lines_at l.self-inside.bytes.items l.self-inside.bounds.items);
  lines : (more : List ℕ) → lines_to_come (at_line (lines_at l.self-inside.bytes.items l.self-inside.bounds.items) l.begun) (l.left ++ more)
      ≡ lines_to_come (at_line l.fn.self l.number) (l.text ++ more);
}

abbrev pub decreases-lines : goal.decreases-lines
decreases-lines l = length l.left
