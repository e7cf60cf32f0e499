-- Pieces of lines.
use Rattle.std.specs.Prelude.{ℕ, List, [], ◌++◌, decimal, fold}
use Rattle.std.specs.Option.{option_copied}
use Rattle.aud_explanation.specs.declared.name.Names.{Names}
use Rattle.aud_explanation.specs.declared.text.piece.Piece.{Piece}
use Rattle.aud_explanation.specs.declared.text.piece.Piece.TheVariants.{Words, Number, Name, Named, Known}
use Rattle.aud_explanation.specs.Named.{name_words, named_words}
use Rattle.aud_explanation.specs.Span.{known_words}

-- a piece, with long names whole or short
abbrev pub piece_text : Names → Piece → List ℕ
piece_text names (Words words) = words.now
piece_text names (Number n) = decimal n
piece_text names (Name name) = name_words names name.now
piece_text names (Named words name none) = named_words names words.now (option_copied name) none.now
piece_text names (Known words n) = known_words words.now n

-- these, one after the other
abbrev pub pieces_text : Names → List Piece → List ℕ
pieces_text names pieces = fold (λ text piece. text ++ piece_text names piece) [] pieces
