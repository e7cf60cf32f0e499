use Rattle.std.proofs.Common.{◌≡◌, ◌∷◌, drop}
use Rattle.aud_reader.specs.Bundle.{taps_of, taps_to_come}
use Rattle.aud_parts.proofs.servers.read_piece.Given as goal

-- the lines that are left are still to come
abbrev pub invariant-loop-line : goal.invariant-loop-line
invariant-loop-line l = taps_to_come l.reader (drop l.line-index l.lines) ≡ taps_of (l.header ∷ l.lines)
