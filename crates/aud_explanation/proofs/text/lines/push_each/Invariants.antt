use Rattle.std.proofs.Common.{◌≡◌, ◌++◌, flat_map, take, string_bytes}
use Rattle.aud_explanation.proofs.text.lines.push_each.Given as goal

-- the lines of those so far
abbrev pub invariant-loop-one : goal.invariant-loop-one
invariant-loop-one g l = string_bytes l.out ≡ string_bytes l.fn.out ++ flat_map (g.T.Lines.lines_of l.page) (take l.one-index l.list)
