-- The lines of files that are read as one input.
use Rattle.std.proofs.Common.{◌≡◌, ℕ, ◌==◌, List, [], ◌∷◌, ◌++◌, true, false, not, cond, refl, sym, ap, ◌∙◌, append-nil}
use Rattle.std.specs.List.{flat_map}
use Rattle.aud_reader.specs.Lines.{line_pieces, onto_first}
use Rattle.aud_input.specs.Sources.{ended, joined, LinesAreThoseOfFiles}

onto_first-append : (x y : ℕ) (pieces others : List (List ℕ)) → onto_first x (onto_first y pieces ++ others) ≡ onto_first x (onto_first y pieces) ++ others
onto_first-append x y [] others = refl
onto_first-append x y (l ∷ ls) others = refl

-- a byte in front of a text that isn't empty stands in its first piece
onto-append : (x y : ℕ) (text : List ℕ) (others : List (List ℕ)) → onto_first x (line_pieces (y ∷ text) ++ others) ≡ onto_first x (line_pieces (y ∷ text)) ++ others
onto-append x y text others =
    elim (y == 10) as (λ t. onto_first x (cond t ([] ∷ line_pieces text) (onto_first y (line_pieces text)) ++ others) ≡ onto_first x (cond t ([] ∷ line_pieces text) (onto_first y (line_pieces text))) ++ others) [
      | true ↦ refl
      | false ↦ onto_first-append x y (line_pieces text) others
    ]

-- what follows a text whose last line is ended begins a line
pieces-ended : (text more : List ℕ) → line_pieces (ended false text ++ more) ≡ line_pieces text ++ line_pieces more
pieces-ended [] more = refl
pieces-ended (x ∷ []) more =
    elim (x == 10) as (λ t. cond t ([] ∷ line_pieces (cond (not t) (10 ∷ []) [] ++ more)) (onto_first x (line_pieces (cond (not t) (10 ∷ []) [] ++ more))) ≡ cond t ([] ∷ []) (onto_first x []) ++ line_pieces more) [
      | true ↦ refl
      | false ↦ refl
    ]
pieces-ended (x ∷ y ∷ text) more =
    let rest = pieces-ended (y ∷ text) more in
    elim (x == 10) as (λ t. cond t ([] ∷ line_pieces (ended false (y ∷ text) ++ more)) (onto_first x (line_pieces (ended false (y ∷ text) ++ more))) ≡ cond t ([] ∷ line_pieces (y ∷ text)) (onto_first x (line_pieces (y ∷ text))) ++ line_pieces more) [
      | true ↦ ap (λ ls. [] ∷ ls) rest
      | false ↦ ap (onto_first x) rest ∙ onto-append x y text (line_pieces more)
    ]

-- the lines of files each of which is ended are the lines of the files
pub pieces-flat : (files : List (List ℕ)) → line_pieces (flat_map (ended false) files) ≡ flat_map line_pieces files
pieces-flat [] = refl
pieces-flat (file ∷ files) = pieces-ended file (flat_map (ended false) files) ∙ ap (λ ls. line_pieces file ++ ls) (pieces-flat files)

pub files-lines : LinesAreThoseOfFiles
files-lines [] = refl
files-lines (file ∷ []) = sym (append-nil (line_pieces file))
files-lines (file ∷ next ∷ files) = pieces-ended file (joined (next ∷ files)) ∙ ap (λ ls. line_pieces file ++ ls) (files-lines (next ∷ files))
