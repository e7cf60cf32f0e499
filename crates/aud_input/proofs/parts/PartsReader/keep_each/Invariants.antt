use Rattle.std.proofs.Common.{◌≡◌, ◌++◌, List, drop}
use Rattle.aud_reader.specs.declared.line.Line.{Line}
use Rattle.aud_input.specs.Reader.{AreAmong, parts_to_come}
use Rattle.aud_input.proofs.parts.PartsReader.keep_each.Given as goal

-- the lines to come bring what all lines did
abbrev pub invariant-loop-line : goal.invariant-loop-line
invariant-loop-line l = record {
  going : l.self.taps ≡ l.fn.self.taps;
  waits : AreAmong (l.self.waiting ++ drop l.line-index l.lines) (l.fn.self.waiting ++ l.lines);
  parts : (more : List Line) → parts_to_come l.self (drop l.line-index l.lines ++ more) ≡ parts_to_come l.fn.self (l.lines ++ more);
}
