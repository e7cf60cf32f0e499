-- Lines that stand in one block of memory.
use Rattle.std.specs.Prelude.{ℕ, ◌+◌, ◌≤◌, List, length, map, take, drop}
use Rattle.std.specs.List.{All}
use Rattle.aud_reader.specs.declared.line.Line.{Line}
use Rattle.aud_reader.specs.declared.lines.Bounds.{Bounds}

-- the line that stands there among the bytes
abbrev pub line_within : List ℕ → Bounds → Line
line_within bytes at = record { number = at.number; bytes = take at.length (drop at.start bytes) }

-- the lines that stand there
abbrev pub lines_at : List ℕ → List Bounds → List Line
lines_at bytes bounds = map (line_within bytes) bounds

-- each stands within the bytes
abbrev pub AreWithin : List ℕ → List Bounds → Type 0
AreWithin bytes bounds = All (λ (at : Bounds). at.start + at.length ≤ length bytes) bounds
