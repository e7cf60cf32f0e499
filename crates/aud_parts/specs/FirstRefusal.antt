-- The first of the lines that are refused.
use Rattle.std.specs.Prelude.{nat_le, Option, Some, None, if◌then◌else◌}
use Rattle.aud_parts.specs.declared.tap_index.first_refusal.RefusedLine.{RefusedLine}

-- of these lines the one with the lesser number
abbrev pub first_refused : Option RefusedLine → RefusedLine → Option RefusedLine
first_refused None line = Some line
first_refused (Some first) line = if nat_le first.number line.number then Some first else Some line
