-- Numbered lines.
use Rattle.std.proofs.Common.{◌≡◌, ℕ, ◌+◌, ◌<◌, List, [], ◌∷◌, ◌++◌, length, get_or, drop, ap, sym, ◌∙◌, add-one, arith}
use Rattle.std.specs.List.{flat_map}
use Rattle.std.proofs.Math.Seq.{drop-cons}
use Rattle.std.proofs.lemmas.List.{length-map}
use Rattle.std.specs.Borrow.{Bor}
use Rattle.aud_reader.specs.declared.line.Line.{Line}
use Rattle.aud_book.specs.declared.book.TapLines.{TapLines}
use Rattle.aud_book.specs.History.{texts}
use Rattle.aud_book.specs.Taps.{seen, seen_taps}
use Rattle.aud_book.specs.PostedLines.{named_line, named_lines, numbered}

-- later lines are numbered on from the earlier ones
pub numbered-append : (n : ℕ) (xs ys : List (List ℕ)) → numbered n (xs ++ ys) ≡ numbered n xs ++ numbered (length xs + n) ys
numbered-append n [] ys = let same : n ≡ 0 + n = omega arith in ap (λ k. numbered k ys) same
numbered-append n (x ∷ xs) ys =
    let on : length xs + (n + 1) ≡ length (x ∷ xs) + n = omega arith in
    let first : Line = record { number = n; bytes = x } in
    ap (λ ls. first ∷ ls) (numbered-append (n + 1) xs ys ∙ ap (λ k. numbered (n + 1) xs ++ numbered k ys) on)

-- the lines of the taps from one on: those of that tap, and those of the taps after it
pub next-tap : (taps : List TapLines) (i n m : ℕ) (tap d : TapLines) → i < length taps → tap ≡ get_or taps i d → m ≡ n + length tap.lines.items
    → numbered n (flat_map named_lines (seen_taps (drop i taps))) ≡ numbered n (named_lines (seen tap)) ++ numbered m (flat_map named_lines (seen_taps (drop (i + 1) taps)))
next-tap taps i n m tap d h there is =
    let rest = flat_map named_lines (seen_taps (drop (i + 1) taps)) in
    let count : length (named_lines (seen tap)) ≡ length tap.lines.items = length-map (texts tap.lines.items) (named_line tap.name.now) ∙ length-map tap.lines.items (λ (l : Bor (List ℕ)). l.now) in
    let on : length (named_lines (seen tap)) + n ≡ m = omega (arith, count, is) in
    ap (λ ts. numbered n (flat_map named_lines (seen_taps ts))) (drop-cons taps i d h ∙ ap (λ k. get_or taps i d ∷ drop k taps) (sym (add-one i)) ∙ ap (λ t. t ∷ drop (i + 1) taps) (sym there))
    ∙ numbered-append n (named_lines (seen tap)) rest ∙ ap (λ k. numbered n (named_lines (seen tap)) ++ numbered k rest) on
