use Rattle.std.proofs.Common.{◌≡◌, ◌+◌, ◌^◌, ◌<◌, ◌≤◌, ◌++◌, length}
use Rattle.aud_reader.specs.Lines.{line_pieces}
use Rattle.aud_parts.specs.TapRuns.{lines_with_bytes}
use Rattle.aud_parts.proofs.tap_index.tap_lines.push_lines.Given as goal

-- the lines so far, with those of the bytes that are left, are those of all
abbrev pub invariant-lines : goal.invariant-lines
invariant-lines l = record {
  within : l.next + length l.left ≤ l.number + length l.bytes;
  lines : l.number + length l.bytes < 2 ^ 64
      → l.lines.items ++ lines_with_bytes l.next (line_pieces l.left) ≡ l.fn.lines.items ++ lines_with_bytes l.number (line_pieces l.bytes);
  count : l.number + length l.bytes < 2 ^ 64 → l.next + length (line_pieces l.left) ≡ l.number + length (line_pieces l.bytes);
}

-- there are fewer bytes each time
abbrev pub decreases-lines : goal.decreases-lines
decreases-lines l = length l.left
