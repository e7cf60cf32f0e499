-- The first line of a name brought before the lines of other names that stand before it: the lines stay the same but
-- for their order.
use Rattle.std.proofs.Common.{◌≡◌, ℕ, List, [], ◌∷◌, ◌++◌, Bool, true, false, cond, ◌⊎◌, inl, inr, refl, sym, ap, ◌∙◌, true≢false}
use Rattle.aud_base.proofs.SameText.{same_text, itself_text}
use Rattle.aud_tap.specs.Forms.{is_text}
use Rattle.aud_laws.specs.Order.{first_word, is_line_of, lines_of_tap, is_known, names_after}
use Rattle.aud_laws.proofs.AnyOrder.Words.{with_name, among-more, after-known, after-new}

-- the lines without the first of this name
abbrev pub without_first : List ℕ → List (List ℕ) → List (List ℕ)
without_first name [] = []
without_first name (x ∷ xs) = cond (is_line_of name x) xs (x ∷ without_first name xs)

-- the name is known, or comes before all others that aren't
abbrev pub IsNext : List (List ℕ) → List ℕ → List (List ℕ) → Type 0
IsNext known name lines = (is_known known name ≡ true) ⊎ ((others : List (List ℕ)) × (names_after known lines ≡ name ∷ others))

-- before a line of the next name stands a line of another name that is known, unless the next one is
pub record Passes (known : List (List ℕ)) (name word : List ℕ) (lines : List (List ℕ)) : Type 0 where
  pub still : IsNext (with_name known word) name lines
  pub one : (is_known known name ≡ true) ⊎ (is_known known word ≡ true)

-- a name that is known stays so with another
known-with : (known : List (List ℕ)) (word name : List ℕ) → is_known known name ≡ true → is_known (with_name known word) name ≡ true
known-with known word name is =
    elim (is_known known word) as (λ b. is_known (cond b known (known ++ word ∷ [])) name ≡ true) [
      | true ↦ is
      | false ↦ among-more known word name is
    ]

-- the next name stays so after a line of another
pub passes : (known : List (List ℕ)) (name : List ℕ) (b : ℕ) (bs : List ℕ) (lines : List (List ℕ)) → is_text name (first_word (b ∷ bs)) ≡ false → IsNext known name ((b ∷ bs) ∷ lines)
    → Passes known name (first_word (b ∷ bs)) lines
passes known name b bs lines other (inl is) = record { still = inl (known-with known (first_word (b ∷ bs)) name is); one = inl is }
passes known name b bs lines other (inr (others, e)) = by (is_known known word) refl
  where
    word : List ℕ
    word = first_word (b ∷ bs)

    by : (v : Bool) → is_known known word ≡ v → Passes known name word lines
    by true is = record { still = inr (others, rw is (sym (after-known known b bs lines is) ∙ e)); one = inr is }
    by false is =
        let new = sym (after-new known b bs lines is) ∙ e in
        let same : word ≡ name = cc in
        absurd (true≢false (sym (itself_text name) ∙ ap (is_text name) (sym same) ∙ other))

-- two lines of different names, of which one is known, bring the same names in either order
pub swapped : (known : List (List ℕ)) (b : ℕ) (bs : List ℕ) (c : ℕ) (cs : List ℕ) (left lines : List (List ℕ)) → (is_known known (first_word (b ∷ bs)) ≡ true) ⊎ (is_known known (first_word (c ∷ cs)) ≡ true)
    → names_after (with_name known (first_word (c ∷ cs))) ((b ∷ bs) ∷ left) ≡ names_after (with_name known (first_word (c ∷ cs))) lines
    → names_after known ((b ∷ bs) ∷ (c ∷ cs) ∷ left) ≡ names_after known ((c ∷ cs) ∷ lines)
swapped known b bs c cs left lines one same = by (is_known known (first_word (c ∷ cs))) refl (is_known known (first_word (b ∷ bs))) refl one same
  where
    name : List ℕ
    name = first_word (b ∷ bs)

    word : List ℕ
    word = first_word (c ∷ cs)

    by : (v : Bool) → is_known known word ≡ v → (w : Bool) → is_known known name ≡ w → (w ≡ true) ⊎ (v ≡ true)
        → names_after (cond v known (known ++ word ∷ [])) ((b ∷ bs) ∷ left) ≡ names_after (cond v known (known ++ word ∷ [])) lines
        → names_after known ((b ∷ bs) ∷ (c ∷ cs) ∷ left) ≡ names_after known ((c ∷ cs) ∷ lines)
    by true is true is_name one h =
        after-known known b bs ((c ∷ cs) ∷ left) is_name ∙ after-known known c cs left is ∙ sym (after-known known b bs left is_name) ∙ h ∙ sym (after-known known c cs lines is)
    by true is false is_name one h =
        after-new known b bs ((c ∷ cs) ∷ left) is_name
        ∙ ap (λ ns. name ∷ ns) (after-known (known ++ name ∷ []) c cs left (among-more known name word is))
        ∙ sym (after-new known b bs left is_name) ∙ h ∙ sym (after-known known c cs lines is)
    by false is true is_name one h =
        after-known known b bs ((c ∷ cs) ∷ left) is_name ∙ after-new known c cs left is
        ∙ ap (λ ns. word ∷ ns) (sym (after-known (known ++ word ∷ []) b bs left (among-more known word name is_name)) ∙ h)
        ∙ sym (after-new known c cs lines is)
    by false is false is_name (inl one) h = absurd (true≢false (sym one))
    by false is false is_name (inr one) h = absurd (true≢false (sym one))

-- ---- the lines of each tap

-- a line of one name is of no other
apart : (name k x : List ℕ) → is_line_of name x ≡ false → is_line_of k x ≡ true → is_text k name ≡ false
apart name k x other own =
    elim (is_text k name) as (λ b. is_text k name ≡ b → b ≡ false) [
      | true ↦ λ is. absurd (true≢false (sym own ∙ ap (λ n. is_line_of n x) (same_text k name is) ∙ other))
      | false ↦ λ is. refl
    ] refl

module _ (b : ℕ) (bs : List ℕ) (rest : List (List ℕ)) where
  -- each tap keeps its lines
  pub lines-front : (k : List ℕ) (lines : List (List ℕ)) → lines_of_tap (first_word (b ∷ bs)) lines ≡ (b ∷ bs) ∷ rest
      → lines_of_tap k ((b ∷ bs) ∷ without_first (first_word (b ∷ bs)) lines) ≡ lines_of_tap k lines
  lines-front k [] e = cc
  lines-front k (x ∷ xs) e =
      elim (is_line_of (first_word (b ∷ bs)) x) as (λ v. is_line_of (first_word (b ∷ bs)) x ≡ v
      → cond v (x ∷ lines_of_tap (first_word (b ∷ bs)) xs) (lines_of_tap (first_word (b ∷ bs)) xs) ≡ (b ∷ bs) ∷ rest
      → lines_of_tap k ((b ∷ bs) ∷ cond v xs (x ∷ without_first (first_word (b ∷ bs)) xs)) ≡ lines_of_tap k (x ∷ xs)) [
        | true ↦ λ is h. let same : b ∷ bs ≡ x = cc in ap (λ l. lines_of_tap k (l ∷ xs)) same
        | false ↦ λ is h. past x xs is (lines-front k xs h)
      ] refl e
    where
      past : (x : List ℕ) (xs : List (List ℕ)) → is_line_of (first_word (b ∷ bs)) x ≡ false
          → lines_of_tap k ((b ∷ bs) ∷ without_first (first_word (b ∷ bs)) xs) ≡ lines_of_tap k xs
          → lines_of_tap k ((b ∷ bs) ∷ x ∷ without_first (first_word (b ∷ bs)) xs) ≡ lines_of_tap k (x ∷ xs)
      past x xs other same =
          elim (is_line_of k x) as (λ v. is_line_of k x ≡ v
          → cond (is_line_of k (b ∷ bs)) ((b ∷ bs) ∷ cond v (x ∷ lines_of_tap k (without_first (first_word (b ∷ bs)) xs)) (lines_of_tap k (without_first (first_word (b ∷ bs)) xs)))
          (cond v (x ∷ lines_of_tap k (without_first (first_word (b ∷ bs)) xs)) (lines_of_tap k (without_first (first_word (b ∷ bs)) xs)))
          ≡ cond v (x ∷ lines_of_tap k xs) (lines_of_tap k xs)) [
            | true ↦ λ own. let past_front = apart (first_word (b ∷ bs)) k x other own in rw past_front (ap (λ ls. x ∷ ls) (rw past_front at same))
            | false ↦ λ own. same
          ] refl

  -- ---- the names

  -- the names come first in the same order
  pub names-front : (known lines : List (List ℕ)) → lines_of_tap (first_word (b ∷ bs)) lines ≡ (b ∷ bs) ∷ rest → IsNext known (first_word (b ∷ bs)) lines
      → names_after known ((b ∷ bs) ∷ without_first (first_word (b ∷ bs)) lines) ≡ names_after known lines
  names-front known [] e next = cc
  names-front known ([] ∷ xs) e next = names-front known xs e next
  names-front known ((c ∷ cs) ∷ xs) e next =
      elim (is_text (first_word (b ∷ bs)) (first_word (c ∷ cs))) as (λ v. is_text (first_word (b ∷ bs)) (first_word (c ∷ cs)) ≡ v
      → cond v ((c ∷ cs) ∷ lines_of_tap (first_word (b ∷ bs)) xs) (lines_of_tap (first_word (b ∷ bs)) xs) ≡ (b ∷ bs) ∷ rest
      → names_after known ((b ∷ bs) ∷ cond v xs ((c ∷ cs) ∷ without_first (first_word (b ∷ bs)) xs)) ≡ names_after known ((c ∷ cs) ∷ xs)) [
        | true ↦ λ is h. let same : b ∷ bs ≡ c ∷ cs = cc in ap (λ l. names_after known (l ∷ xs)) same
        | false ↦ λ is h.
            let pass = passes known (first_word (b ∷ bs)) c cs xs is next in
            past pass.one (names-front (with_name known (first_word (c ∷ cs))) xs h pass.still)
      ] refl e
    where
      past : (is_known known (first_word (b ∷ bs)) ≡ true) ⊎ (is_known known (first_word (c ∷ cs)) ≡ true)
          → names_after (with_name known (first_word (c ∷ cs))) ((b ∷ bs) ∷ without_first (first_word (b ∷ bs)) xs) ≡ names_after (with_name known (first_word (c ∷ cs))) xs
          → names_after known ((b ∷ bs) ∷ (c ∷ cs) ∷ without_first (first_word (b ∷ bs)) xs) ≡ names_after known ((c ∷ cs) ∷ xs)
      past one same = swapped known b bs c cs (without_first (first_word (b ∷ bs)) xs) xs one same
