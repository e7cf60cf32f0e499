use Rattle.std.proofs.Common.{take}
use Rattle.aud_base.specs.OneForEach.{OneForEach}
use Rattle.aud_parts.specs.ServerLines.{HasLinesOf, NamesLines}
use Rattle.aud_parts.proofs.part.lines.server_lines.Given as goal

-- those of the taps so far
abbrev pub invariant-loop-tap : goal.invariant-loop-tap
invariant-loop-tap l = record {
  count : OneForEach HasLinesOf (take l.tap-index l.part) l.all.items;
  named : OneForEach (NamesLines l.taps l.lines) (take l.tap-index l.part) l.all.items;
}
