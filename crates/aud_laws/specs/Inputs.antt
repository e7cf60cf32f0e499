-- The lines of an input, whatever their lengths.
use Rattle.std.specs.Prelude.{ℕ, List, map}
use Rattle.aud_reader.specs.Lines.{line_pieces, without_return}

-- the bytes of each line, without its newline and the carriage return that is dropped
abbrev pub line_texts : List ℕ → List (List ℕ)
line_texts bytes = map without_return (line_pieces bytes)
