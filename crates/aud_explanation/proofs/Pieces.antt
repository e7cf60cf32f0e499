-- Rows, as far as they are filled.
use Rattle.std.proofs.Common.{◌≡◌, ℕ, ◌+◌, ◌<◌, take, map, List, [], ◌∷◌, ◌++◌, length, get_or, refl, sym, ap, ◌∙◌, append_assoc, append-nil, add-one}
use Rattle.std.proofs.Math.Seq.{take-suc}
use Rattle.std.proofs.lemmas.List.{map-append}
use Rattle.std.proofs.lemmas.List.Sums.{fold-append}
use Rattle.aud_explanation.specs.declared.event.ClientEvent.{ClientEvent}
use Rattle.aud_explanation.specs.Long.{first_shown, last_shown, left_out}
use Rattle.aud_explanation.specs.EventText.{event_words, left_words, piece, piece_end, pieces, pieces_end, row_words}

-- the first words, and then the others
pub pieces-append : (column : ℕ) (a b : List (List ℕ)) → pieces column (a ++ b) ≡ pieces column a ++ pieces (pieces_end column a) b
pieces-append column [] b = refl
pieces-append column (words ∷ a) b =
    ap (λ r. piece column words ++ r) (pieces-append (piece_end column words) a b)
    ∙ sym (append_assoc (piece column words) (pieces (piece_end column words) a) (pieces (pieces_end (piece_end column words) a) b))

-- the column after them
pub end-append : (column : ℕ) (a b : List (List ℕ)) → pieces_end column (a ++ b) ≡ pieces_end (pieces_end column a) b
end-append column a b = fold-append piece_end column a b

-- the words so far, and those of one event more
words-more : (es : List ClientEvent) (i : ℕ) (d : ClientEvent) → i < length es → map event_words (take (i + 1) es) ≡ map event_words (take i es) ++ event_words (get_or es i d) ∷ []
words-more es i d h = rw (add-one, take-suc es i d h) (map-append event_words (take i es) (get_or es i d ∷ []))

-- one event more
pub pieces-more : (old out start : List ℕ) (column now i : ℕ) (es : List ClientEvent) (d : ClientEvent) → i < length es
    → old ≡ start ++ pieces column (map event_words (take i es)) → now ≡ pieces_end column (map event_words (take i es))
    → out ≡ old ++ piece now (event_words (get_or es i d)) → out ≡ start ++ pieces column (map event_words (take (i + 1) es))
pieces-more old out start column now i es d h text end is =
    let words : List ℕ = event_words (get_or es i d) in
    let before : List (List ℕ) = map event_words (take i es) in
    is
    ∙ ap (λ b. b ++ piece now words) text
    ∙ append_assoc start (pieces column before) (piece now words)
    ∙ ap (λ n. start ++ (pieces column before ++ piece n words)) end
    ∙ ap (λ b. start ++ (pieces column before ++ b)) (sym (append-nil (piece (pieces_end column before) words)))
    ∙ ap (λ b. start ++ b) (sym (pieces-append column before (words ∷ [])))
    ∙ ap (λ b. start ++ pieces column b) (sym (words-more es i d h))

-- the column after it
pub end-more : (column now next i : ℕ) (es : List ClientEvent) (d : ClientEvent) → i < length es
    → now ≡ pieces_end column (map event_words (take i es)) → next ≡ piece_end now (event_words (get_or es i d)) → next ≡ pieces_end column (map event_words (take (i + 1) es))
end-more column now next i es d h end ends =
    ends
    ∙ ap (λ n. piece_end n (event_words (get_or es i d))) end
    ∙ sym (end-append column (map event_words (take i es)) (event_words (get_or es i d) ∷ []))
    ∙ ap (λ b. pieces_end column b) (sym (words-more es i d h))

-- the first events, how many are left out, and the last events
pub row-laid : (old o1 o2 o3 : List ℕ) (c1 c2 left : ℕ) (es front back : List ClientEvent) → front ≡ first_shown es → left ≡ left_out es → back ≡ last_shown es
    → o1 ≡ old ++ pieces 10 (map event_words front) → c1 ≡ pieces_end 10 (map event_words front)
    → o2 ≡ o1 ++ pieces c1 (left_words left) → c2 ≡ pieces_end c1 (left_words left)
    → o3 ≡ o2 ++ pieces c2 (map event_words back) → o3 ≡ old ++ pieces 10 (row_words es)
row-laid old o1 o2 o3 c1 c2 left es front back is_front is_left is_back t1 e1 t2 e2 t3 =
    let a : List (List ℕ) = map event_words (first_shown es) in
    let b : List (List ℕ) = left_words (left_out es) in
    let c : List (List ℕ) = map event_words (last_shown es) in
    let n : ℕ = pieces_end 10 a in
    let f1 : c1 ≡ n = e1 ∙ ap (λ x. pieces_end 10 (map event_words x)) is_front in
    let f2 : c2 ≡ pieces_end n b = e2 ∙ ap (λ x. pieces_end x (left_words left)) f1 ∙ ap (λ x. pieces_end n (left_words x)) is_left in
    t3
    ∙ ap (λ x. o2 ++ pieces c2 (map event_words x)) is_back
    ∙ ap (λ x. o2 ++ pieces x c) f2
    ∙ ap (λ x. x ++ pieces (pieces_end n b) c) t2
    ∙ ap (λ x. (o1 ++ pieces c1 (left_words x)) ++ pieces (pieces_end n b) c) is_left
    ∙ ap (λ x. (o1 ++ pieces x b) ++ pieces (pieces_end n b) c) f1
    ∙ append_assoc o1 (pieces n b) (pieces (pieces_end n b) c)
    ∙ ap (λ x. o1 ++ x) (sym (pieces-append n b c))
    ∙ ap (λ x. x ++ pieces n (b ++ c)) t1
    ∙ ap (λ x. (old ++ pieces 10 (map event_words x)) ++ pieces n (b ++ c)) is_front
    ∙ append_assoc old (pieces 10 a) (pieces n (b ++ c))
    ∙ ap (λ x. old ++ x) (sym (pieces-append 10 a (b ++ c)))
    ∙ ap (λ x. old ++ pieces 10 x) (sym (append_assoc a b c))
