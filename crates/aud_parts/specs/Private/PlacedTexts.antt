-- Taps by the places where their lines stand in a text.
use Rattle.std.specs.Prelude.{ℕ, List}
use Rattle.aud_base.specs.Lists.{between}
use Rattle.aud_parts.specs.declared.part.server_text.PlacedTap.{PlacedTap}
use Rattle.aud_parts.specs.ServerTexts.{TapText}

-- the tap with its lines
abbrev pub placed_text : List ℕ → PlacedTap → TapText
placed_text text tap = record { name = tap.name; text = between text tap.from tap.to }
