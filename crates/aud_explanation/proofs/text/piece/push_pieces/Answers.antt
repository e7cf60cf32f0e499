use Rattle.std.proofs.Common.{◌≡◌, ◌++◌, ◌∙◌, ℕ, List, [], ◌∷◌, flat_map, fold, string_bytes, sym, ap, append_assoc, append-nil}
use Rattle.std.proofs.lemmas.List.{take_all}
use Rattle.aud_explanation.specs.declared.name.Names.{Names}
use Rattle.aud_explanation.specs.declared.text.piece.Piece.{Piece}
use Rattle.aud_explanation.specs.Private.Piece.{piece_text}
use Rattle.aud_explanation.proofs.text.piece.push_pieces.Goals as goal

-- behind a text, one after the other
behind : (names : Names) (text : List ℕ) (pieces : List Piece) → text ++ flat_map (piece_text names) pieces ≡ fold (λ text piece. text ++ piece_text names piece) text pieces
behind names text [] = append-nil text
behind names text (piece ∷ pieces) = sym (append_assoc text (piece_text names piece) (flat_map (piece_text names) pieces)) ∙ behind names (text ++ piece_text names piece) pieces

pub returns : goal.returns
returns c =
    c.loop-piece.invariant
    ∙ ap (λ pieces. string_bytes c.args.out.now ++ flat_map (piece_text c.args.names) pieces) (take_all c.loop-piece.piece-index c.args.pieces.now c.loop-piece-test.false)
    ∙ ap (λ text. string_bytes c.args.out.now ++ text) (behind c.args.names [] c.args.pieces.now)
