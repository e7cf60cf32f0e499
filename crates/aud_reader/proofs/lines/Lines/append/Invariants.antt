use Rattle.std.proofs.Common.{◌≡◌, ◌++◌, map, take}
use Rattle.aud_reader.proofs.BoundsLemmas.{shifted}
use Rattle.aud_reader.proofs.lines.Lines.append.Given as goal

abbrev pub invariant-loop-at : goal.invariant-loop-at
invariant-loop-at l = (l.self-inside.bytes ≡ l.initial.self-inside.bytes)
    × (l.self-inside.bounds.items ≡ l.initial.self-inside.bounds.items ++ map (shifted l.front) (take l.at-index l.at-items))
