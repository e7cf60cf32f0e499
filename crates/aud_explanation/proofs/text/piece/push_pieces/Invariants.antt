use Rattle.std.proofs.Common.{◌≡◌, ◌++◌, flat_map, take, string_bytes}
use Rattle.aud_explanation.specs.Private.Piece.{piece_text}
use Rattle.aud_explanation.proofs.text.piece.push_pieces.Given as goal

-- the pieces so far
abbrev pub invariant-loop-piece : goal.invariant-loop-piece
invariant-loop-piece l = string_bytes l.out ≡ string_bytes l.fn.out ++ flat_map (piece_text l.names) (take l.piece-index l.pieces)
