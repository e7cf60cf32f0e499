-- The lines that are kept, by the names that lines begin with.
use Rattle.std.proofs.Common.{◌≡◌, ℕ, zero, suc, ◌+◌, List, [], ◌∷◌, ◌++◌, map, Bool, true, false, true≢false, cond, ◌||◌, Option, Some, None, option_map, slice_get, bytes_eq, refl, sym, ap, ◌∙◌, append_assoc, append-nil}
use Rattle.std.specs.List.{filter}
use Rattle.std.specs.Option.{option_and_then}
use Rattle.aud_base.proofs.SameText.{same_text, itself_text, other_text}
use Rattle.aud_input.specs.TapLines.{NamedLine, TapLines, first_kept, named_lines, numbers_of, is_among, new_names, with_line, with_lines}
use Rattle.aud_input.specs.RecordLines.{FirstKeptIsFirst, KeptAreLinesOfRecords}
use Rattle.aud_input.specs.Private.Kept.{place_in, AreNamedOnce}
use Rattle.std.proofs.lemmas.Option.{none-some, same_Some}
use Rattle.aud_input.proofs.PlacesLemmas.{none_of, once-with_line}

-- the numbers that are kept for a name
numbers_by : List ℕ → List TapLines → List ℕ
numbers_by name [] = []
numbers_by name (t ∷ ts) = cond (bytes_eq t.name name) t.numbers (numbers_by name ts)

abbrev names : List TapLines → List (List ℕ)
names ts = map (λ (t : TapLines). t.name) ts

-- a line's number, if it begins with the name
abbrev pub number_for : List ℕ → NamedLine → List ℕ
number_for name line = cond (bytes_eq line.name name) (line.number ∷ []) []

-- a line puts its number after those of its name
numbers-with_line : (name : List ℕ) (ts : List TapLines) (line : NamedLine) → numbers_by name (with_line ts line) ≡ numbers_by name ts ++ number_for name line
unfolding numbers_by
numbers-with_line name [] line = refl
numbers-with_line name (t ∷ ts) line = go (bytes_eq t.name line.name) refl (numbers-with_line name ts line)
  where
    same : (b : Bool) → t.name ≡ line.name → bytes_eq t.name name ≡ b → cond b (t.numbers ++ line.number ∷ []) (numbers_by name ts) ≡ cond b t.numbers (numbers_by name ts) ++ cond b (line.number ∷ []) []
    same true is e = refl
    same false is e = sym (append-nil (numbers_by name ts))

    later : (b : Bool) → bytes_eq t.name line.name ≡ false → bytes_eq t.name name ≡ b → numbers_by name (with_line ts line) ≡ numbers_by name ts ++ number_for name line
        → cond b t.numbers (numbers_by name (with_line ts line)) ≡ cond b t.numbers (numbers_by name ts) ++ number_for name line
    later true other e ih =
        let own : t.name ≡ name = same_text t.name name e in
        let differ : bytes_eq line.name name ≡ false = other_text line.name name (λ is. true≢false (sym (itself_text t.name) ∙ ap (bytes_eq t.name) (own ∙ sym is) ∙ other)) in
        rw differ (sym (append-nil t.numbers))
    later false other e ih = ih

    go : (b : Bool) → bytes_eq t.name line.name ≡ b → numbers_by name (with_line ts line) ≡ numbers_by name ts ++ number_for name line
        → numbers_by name (cond b (record t { numbers = t.numbers ++ line.number ∷ [] } ∷ ts) (t ∷ with_line ts line)) ≡ cond (bytes_eq t.name name) t.numbers (numbers_by name ts) ++ number_for name line
    go true e ih =
        let is = same_text t.name line.name e in
        same (bytes_eq t.name name) is refl ∙ ap (λ n. cond (bytes_eq t.name name) t.numbers (numbers_by name ts) ++ cond (bytes_eq n name) (line.number ∷ []) []) is
    go false e ih = later (bytes_eq t.name name) e refl ih

pub numbers-cons : (name : List ℕ) (line : NamedLine) (lines : List NamedLine) → numbers_of name (line ∷ lines) ≡ number_for name line ++ numbers_of name lines
numbers-cons name line lines = go (bytes_eq line.name name)
  where
    go : (b : Bool) → map (λ (l : NamedLine). l.number) (cond b (line ∷ filter (λ (l : NamedLine). bytes_eq l.name name) lines) (filter (λ (l : NamedLine). bytes_eq l.name name) lines)) ≡ cond b (line.number ∷ []) [] ++ numbers_of name lines
    go true = refl
    go false = refl

numbers-with_lines : (name : List ℕ) (ts : List TapLines) (lines : List NamedLine) → numbers_by name (with_lines ts lines) ≡ numbers_by name ts ++ numbers_of name lines
numbers-with_lines name ts [] = sym (append-nil (numbers_by name ts))
numbers-with_lines name ts (line ∷ lines) =
    numbers-with_lines name (with_line ts line) lines
    ∙ ap (λ ns. ns ++ numbers_of name lines) (numbers-with_line name ts line)
    ∙ append_assoc (numbers_by name ts) (number_for name line) (numbers_of name lines)
    ∙ ap (λ ns. numbers_by name ts ++ ns) (sym (numbers-cons name line lines))

-- ---- the names

-- a line's name is put after the others, where it is new
names-with_line : (ts : List TapLines) (line : NamedLine) → names (with_line ts line) ≡ cond (is_among (names ts) line.name) (names ts) (names ts ++ line.name ∷ [])
names-with_line [] line = refl
names-with_line (t ∷ ts) line = go (bytes_eq t.name line.name) (names-with_line ts line)
  where
    push : (b : Bool) → t.name ∷ cond b (names ts) (names ts ++ line.name ∷ []) ≡ cond b (t.name ∷ names ts) (t.name ∷ names ts ++ line.name ∷ [])
    push true = refl
    push false = refl

    go : (b : Bool) → names (with_line ts line) ≡ cond (is_among (names ts) line.name) (names ts) (names ts ++ line.name ∷ [])
        → names (cond b (record t { numbers = t.numbers ++ line.number ∷ [] } ∷ ts) (t ∷ with_line ts line)) ≡ cond (b || is_among (names ts) line.name) (t.name ∷ names ts) (t.name ∷ names ts ++ line.name ∷ [])
    go true ih = refl
    go false ih = ap (λ ns. t.name ∷ ns) ih ∙ push (is_among (names ts) line.name)

names-with_lines : (ts : List TapLines) (lines : List NamedLine) → names (with_lines ts lines) ≡ names ts ++ new_names (names ts) lines
names-with_lines ts [] = sym (append-nil (names ts))
names-with_lines ts (line ∷ lines) =
    names-with_lines (with_line ts line) lines ∙ ap (λ ns. ns ++ new_names ns lines) (names-with_line ts line) ∙ go (is_among (names ts) line.name)
  where
    go : (b : Bool) → (cond b (names ts) (names ts ++ line.name ∷ [])) ++ new_names (cond b (names ts) (names ts ++ line.name ∷ [])) lines
        ≡ names ts ++ cond b (new_names (names ts) lines) (line.name ∷ new_names (names ts ++ line.name ∷ []) lines)
    go true = refl
    go false = append_assoc (names ts) (line.name ∷ []) (new_names (names ts ++ line.name ∷ []) lines)

once-with_lines : (ts : List TapLines) (lines : List NamedLine) → AreNamedOnce ts → AreNamedOnce (with_lines ts lines)
once-with_lines ts [] once = once
once-with_lines ts (line ∷ lines) once = once-with_lines (with_line ts line) lines (once-with_line ts line once)

-- ---- a tap by its place, and by its name

name-at : (ts : List TapLines) (i : ℕ) → slice_get (names ts) i ≡ option_map (λ (t : TapLines). t.name) (slice_get ts i)
name-at [] i = refl
name-at (t ∷ ts) zero = refl
name-at (t ∷ ts) (suc i) = name-at ts i

-- a name that no tap has isn't that of one
differs : (ts : List TapLines) (name : List ℕ) (i : ℕ) (t : TapLines) → place_in ts name ≡ None → slice_get ts i ≡ Some t → bytes_eq name t.name ≡ false
differs [] name i t none at = absurd (none-some t at)
differs (u ∷ us) name zero t none at =
    let absent = (none_of _ _ none).0 in
    let is : u ≡ t = same_Some u t at in
    other_text name t.name (λ e. true≢false (sym (itself_text name) ∙ ap (λ a. bytes_eq a name) (e ∙ sym (ap (λ (x : TapLines). x.name) is)) ∙ absent))
differs (u ∷ us) name (suc i) t none at = differs us name i t (none_of _ _ none).1 at

-- what is kept at a place is what is kept for the name there
kept-by : (ts : List TapLines) (i k : ℕ) → AreNamedOnce ts
    → option_and_then (λ (t : TapLines). slice_get t.numbers k) (slice_get ts i) ≡ option_and_then (λ name. slice_get (numbers_by name ts) k) (slice_get (names ts) i)
unfolding numbers_by
kept-by [] i k once = refl
kept-by (t ∷ ts) zero k once = rw (itself_text t.name) refl
kept-by (t ∷ ts) (suc i) k once = kept-by ts i k once.1 ∙ go (slice_get ts i) refl
  where
    go : (o : Option TapLines) → slice_get ts i ≡ o
        → option_and_then (λ name. slice_get (numbers_by name ts) k) (slice_get (names ts) i) ≡ option_and_then (λ name. slice_get (cond (bytes_eq t.name name) t.numbers (numbers_by name ts)) k) (slice_get (names ts) i)
    go None e = rw (name-at ts i, e) refl
    go (Some u) e = rw (name-at ts i, e, differs ts t.name i u once.0 e) refl

pub kept-lines : KeptAreLinesOfRecords
unfolding numbers_by
kept-lines text tap number =
    let lines = named_lines text in
    let ts = with_lines [] lines in
    kept-by ts tap (number + 1) (once-with_lines [] lines tt)
    ∙ ap (λ ns. option_and_then (λ name. slice_get (numbers_by name ts) (number + 1)) (slice_get ns tap)) (names-with_lines [] lines)
    ∙ by_name (slice_get (new_names [] lines) tap)
  where
    by_name : (o : Option (List ℕ)) → option_and_then (λ name. slice_get (numbers_by name (with_lines [] (named_lines text))) (number + 1)) o ≡ option_and_then (λ name. slice_get (numbers_of name (named_lines text)) (number + 1)) o
    by_name None = refl
    by_name (Some name) = ap (λ ns. slice_get ns (number + 1)) (numbers-with_lines name [] (named_lines text))

first-by : (name : List ℕ) (ts : List TapLines) → first_kept ts name ≡ slice_get (numbers_by name ts) 0
unfolding numbers_by
first-by name [] = refl
first-by name (t ∷ ts) =
    elim (bytes_eq t.name name) as (λ b. cond b (slice_get t.numbers 0) (first_kept ts name) ≡ slice_get (cond b t.numbers (numbers_by name ts)) 0) [
      | true ↦ refl
      | false ↦ first-by name ts
    ]

-- the first line of a name that is kept of these lines
pub first-of : (name : List ℕ) (lines : List NamedLine) → first_kept (with_lines [] lines) name ≡ slice_get (numbers_of name lines) 0
unfolding numbers_by
first-of name lines = first-by name (with_lines [] lines) ∙ ap (λ ns. slice_get ns 0) (numbers-with_lines name [] lines)

pub kept-first : FirstKeptIsFirst
kept-first text name = first-of name (named_lines text)
