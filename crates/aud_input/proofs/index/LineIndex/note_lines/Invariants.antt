use Rattle.std.proofs.Common.{◌≡◌, drop}
use Rattle.aud_input.specs.TapLines.{noted}
use Rattle.aud_input.specs.Private.Kept.{KeepsPlaces, so_far}
use Rattle.aud_input.proofs.index.LineIndex.note_lines.Given as goal

-- the lines to come bring what all lines did
abbrev pub invariant-loop-line : goal.invariant-loop-line
invariant-loop-line l = record {
  keeps : KeepsPlaces l.self;
  noted : noted (so_far l.self) (drop l.line-index l.lines) ≡ noted (so_far l.fn.self) l.lines;
}
