-- The name that a line begins with.
use Rattle.std.specs.Prelude.{ℕ, List, Option}
use Rattle.std.specs.Option.{option_and_then}
use Rattle.aud_tap.specs.Forms.{passing}
use Rattle.aud_tap.specs.TapName.{is_tap_name}
use Rattle.aud_reader.specs.Record.{cut_at_blank}

-- what stands before a line's first blank, where that is a tap's name
abbrev pub name_of : List ℕ → Option (List ℕ)
name_of line = option_and_then (λ parts. passing is_tap_name parts.0) (cut_at_blank line)
