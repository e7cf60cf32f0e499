-- Two neighbouring lines in the other order.
use Rattle.std.proofs.Common.{◌≡◌, ◌≢◌, ℕ, List, [], ◌∷◌, ◌++◌, Bool, true, false, cond, ◌⊎◌, refl, sym, ap, ◌∙◌, append_assoc, append-nil}
use Rattle.std.proofs.lemmas.List.Elements.{filter-append}
use Rattle.aud_base.proofs.SameText.{same_text}
use Rattle.aud_tap.specs.Forms.{is_text}
use Rattle.aud_laws.specs.Order.{first_word, is_line_of, lines_of_tap, is_known, names_after, names_in, AreSameButForOrder}
use Rattle.aud_laws.proofs.AnyOrder.Fronts.{swapped}

-- lines of different names are in two taps, of which each keeps its own
lines-swap : (k line other : List ℕ) (after : List (List ℕ)) → first_word line ≢ first_word other → lines_of_tap k (line ∷ other ∷ after) ≡ lines_of_tap k (other ∷ line ∷ after)
lines-swap k [] other after apart = refl
lines-swap k (b ∷ bs) [] after apart = refl
lines-swap k (b ∷ bs) (c ∷ cs) after apart = by (is_text k (first_word (b ∷ bs))) refl (is_text k (first_word (c ∷ cs))) refl
  where
    rest : List (List ℕ)
    rest = lines_of_tap k after

    by : (v : Bool) → is_text k (first_word (b ∷ bs)) ≡ v → (w : Bool) → is_text k (first_word (c ∷ cs)) ≡ w
        → cond v ((b ∷ bs) ∷ cond w ((c ∷ cs) ∷ rest) rest) (cond w ((c ∷ cs) ∷ rest) rest) ≡ cond w ((c ∷ cs) ∷ cond v ((b ∷ bs) ∷ rest) rest) (cond v ((b ∷ bs) ∷ rest) rest)
    by true is true is_other = absurd (apart (sym (same_text k (first_word (b ∷ bs)) is) ∙ same_text k (first_word (c ∷ cs)) is_other))
    by true is false is_other = refl
    by false is true is_other = refl
    by false is false is_other = refl

-- of two names of which one is known, at most one is new
names-swap : (known : List (List ℕ)) (line other : List ℕ) (after : List (List ℕ)) → (is_known known (first_word line) ≡ true) ⊎ (is_known known (first_word other) ≡ true)
    → names_after known (line ∷ other ∷ after) ≡ names_after known (other ∷ line ∷ after)
names-swap known [] [] after one = refl
names-swap known [] (c ∷ cs) after one = refl
names-swap known (b ∷ bs) [] after one = refl
names-swap known (b ∷ bs) (c ∷ cs) after one = swapped known b bs c cs after ((b ∷ bs) ∷ after) one refl

-- more lines bring the names that aren't known after those before them
names-append : (known lines more : List (List ℕ)) → names_after known (lines ++ more) ≡ names_after known lines ++ names_after (known ++ names_after known lines) more
names-append known [] more = ap (λ names. names_after names more) (sym (append-nil known))
names-append known ([] ∷ lines) more = names-append known lines more
names-append known ((b ∷ bs) ∷ lines) more =
    let name = first_word (b ∷ bs) in
    elim (is_known known name) as (λ v. cond v (names_after known (lines ++ more)) (name ∷ names_after (known ++ name ∷ []) (lines ++ more))
    ≡ cond v (names_after known lines) (name ∷ names_after (known ++ name ∷ []) lines) ++ names_after (known ++ cond v (names_after known lines) (name ∷ names_after (known ++ name ∷ []) lines)) more) [
      | true ↦ names-append known lines more
      | false ↦ ap (λ names. name ∷ names) (names-append (known ++ name ∷ []) lines more
          ∙ ap (λ names. names_after (known ++ name ∷ []) lines ++ names_after names more) (append_assoc known (name ∷ []) (names_after (known ++ name ∷ []) lines)))
    ]

-- neighbours of different names, of which one was there before
pub neighbours : (before after : List (List ℕ)) (line other : List ℕ) → first_word line ≢ first_word other
    → (is_known (names_in before) (first_word line) ≡ true) ⊎ (is_known (names_in before) (first_word other) ≡ true)
    → AreSameButForOrder (before ++ line ∷ other ∷ after) (before ++ other ∷ line ∷ after)
neighbours before after line other apart one =
    record {
      each = λ k. filter-append (is_line_of k) before (line ∷ other ∷ after) ∙ ap (λ lines. lines_of_tap k before ++ lines) (lines-swap k line other after apart)
          ∙ sym (filter-append (is_line_of k) before (other ∷ line ∷ after));
      names = names-append [] before (line ∷ other ∷ after) ∙ ap (λ names. names_in before ++ names) (names-swap (names_in before) line other after one)
          ∙ sym (names-append [] before (other ∷ line ∷ after));
    }
