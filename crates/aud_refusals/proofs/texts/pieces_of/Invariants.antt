use Rattle.std.proofs.Common.{◌≡◌, ◌++◌, List, ℕ, map}
use Rattle.std.proofs.lemmas.Iterator.{YieldsList}
use Rattle.aud_eio.specs.Body.{body_pieces}
use Rattle.aud_refusals.proofs.texts.pieces_of.Given as goal

abbrev pub invariant-loop-piece : goal.invariant-loop-piece
invariant-loop-piece l =
    (goal.iterator-loop-piece).can_next l.piece-iterator ×
    (goal.iterator-loop-piece).is_finite l.piece-iterator ×
    ((rest : List (List ℕ)) × YieldsList (goal.iterator-loop-piece).next_gives (λ piece. piece.now) l.piece-iterator rest
    × (body_pieces l.fn.body ≡ map (λ piece. piece.now) l.pieces.items ++ rest))
