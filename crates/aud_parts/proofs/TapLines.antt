-- The lines of a tap, one after the other.
use Rattle.std.proofs.Common.{◌≡◌, ℕ, suc, ◌+◌, ◌<◌, List, ◌∷◌, ◌++◌, length, false, sym, ap, ◌∙◌, arith, append_assoc, append-nil}
use Rattle.aud_reader.specs.declared.line.Line.{Line}
use Rattle.aud_reader.specs.Lines.{has_newline, line_pieces}
use Rattle.aud_reader.proofs.LinesLemmas.{pieces_of-line, pieces_of-last}
use Rattle.aud_parts.specs.TapRuns.{line_with_bytes, lines_with_bytes}

-- what stands before a newline is the next line
pub next_line : (old new all : List Line) (n next : ℕ) (left text others : List ℕ) → left ≡ text ++ 10 ∷ others → has_newline text ≡ false → next ≡ n + 1
    → new ≡ old ++ line_with_bytes n text → old ++ lines_with_bytes n (line_pieces left) ≡ all → new ++ lines_with_bytes next (line_pieces others) ≡ all
next_line old new all n next left text others cut whole counts put so_far =
    ap (λ ls. ls ++ lines_with_bytes next (line_pieces others)) put
    ∙ append_assoc old (line_with_bytes n text) (lines_with_bytes next (line_pieces others))
    ∙ ap (λ k. old ++ (line_with_bytes n text ++ lines_with_bytes k (line_pieces others))) counts
    ∙ ap (λ ls. old ++ lines_with_bytes n ls) (sym (pieces_of-line text others whole))
    ∙ ap (λ l. old ++ lines_with_bytes n (line_pieces l)) (sym cut)
    ∙ so_far

-- what follows the last newline is the last line
pub last_line : (old new all : List Line) (n : ℕ) (left : List ℕ) → has_newline left ≡ false → 0 < length left
    → new ≡ old ++ line_with_bytes n left → old ++ lines_with_bytes n (line_pieces left) ≡ all → new ≡ all
last_line old new all n left whole some put so_far =
    put
    ∙ ap (λ ls. old ++ ls) (sym (append-nil (line_with_bytes n left)))
    ∙ ap (λ ls. old ++ lines_with_bytes n ls) (sym (pieces_of-last left whole some))
    ∙ so_far

-- ---- how many lines there are

-- a line that a newline ends is one
pub next_count : (n next all : ℕ) (left text others : List ℕ) → left ≡ text ++ 10 ∷ others → has_newline text ≡ false → next ≡ n + 1
    → n + length (line_pieces left) ≡ all → next + length (line_pieces others) ≡ all
next_count n next all left text others cut whole counts so_far =
    let pieces : length (line_pieces left) ≡ suc (length (line_pieces others)) = ap (λ l. length (line_pieces l)) cut ∙ ap length (pieces_of-line text others whole) in
    omega (arith, pieces, counts, so_far)

-- so is what follows the last newline
pub last_count : (n next all : ℕ) (left : List ℕ) → has_newline left ≡ false → 0 < length left → next ≡ n + 1
    → n + length (line_pieces left) ≡ all → next ≡ all
last_count n next all left whole some counts so_far =
    let pieces : length (line_pieces left) ≡ 1 = ap length (pieces_of-last left whole some) in
    omega (arith, pieces, counts, so_far)
