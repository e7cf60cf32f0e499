use Rattle.std.proofs.Common.{◌≡◌, take}
use Rattle.aud_reader.specs.Private.Bounds.{lines_at}
use Rattle.aud_reader.proofs.lines.Lines.lent.Given as goal

abbrev pub invariant-loop-at : goal.invariant-loop-at
invariant-loop-at l = l.lines.items ≡ lines_at l.self-inside.bytes.items (take l.at-index l.at-items)
