-- The places of taps by their names, and the lines of each tap with one more.
use Rattle.std.proofs.Common.{◌≡◌, ℕ, zero, suc, ◌<◌, List, [], ◌∷◌, ◌++◌, length, Bool, true, false, true≢false, cond, Option, Some, None, option_map, slice_get, get_or, set, refl, sym, ap, ◌∙◌, arith, bytes_eq}
use Rattle.std.specs.HashMap.{HashMap, get_by_text, UpdatesBy}
use Rattle.std.specs.Prelude.{String}
use Rattle.std.specs.String.{string_bytes, string_eq}
use Rattle.std.proofs.lemmas.Map.Text.{hash_map_updates_text}
use Rattle.std.proofs.lemmas.Option.{none-some}
use Rattle.aud_base.proofs.SameText.{same_text, itself_text, other_text}
use Rattle.aud_input.specs.TapLines.{NamedLine, TapLines, with_line}
use Rattle.aud_input.specs.Private.Kept.{place_in, AreNamedOnce}

-- a first place that isn't there: the first element fails, and the others have none
pub none_of : (b : Bool) (o : Option ℕ) → cond b (Some 0) (option_map suc o) ≡ None → (b ≡ false) × (o ≡ None)
none_of true o e = absurd (none-some 0 (sym e))
none_of false None e = (refl, refl)
none_of false (Some i) e = absurd (none-some (suc i) (sym e))

none_again : (b : Bool) (o : Option ℕ) → b ≡ false → o ≡ None → cond b (Some 0) (option_map suc o) ≡ None
none_again b o first others = rw (first, others) refl

-- ---- a new tap

-- a tap with a new name stands after the others
place-push : (text : List ℕ) (ts : List TapLines) (t : TapLines) → place_in ts t.name ≡ None → place_in (ts ++ t ∷ []) text ≡ cond (bytes_eq t.name text) (Some (length ts)) (place_in ts text)
place-push text [] t first = refl
place-push text (u ∷ us) t first =
    let absent = none_of (bytes_eq u.name t.name) (place_in us t.name) first in
    ap (λ o. cond (bytes_eq u.name text) (Some 0) (option_map suc o)) (place-push text us t absent.1) ∙ go (bytes_eq t.name text) refl absent.0
  where
    go : (b : Bool) → bytes_eq t.name text ≡ b → bytes_eq u.name t.name ≡ false
        → cond (bytes_eq u.name text) (Some 0) (option_map suc (cond b (Some (length us)) (place_in us text))) ≡ cond b (Some (suc (length us))) (cond (bytes_eq u.name text) (Some 0) (option_map suc (place_in us text)))
    go true e other = rw (← same_text t.name text e, other) refl
    go false e other = refl

-- the map of places, with the new name put in, is that of the taps with the new one
pub places-put : {Y S : Type 0} (m n : HashMap (String Y) ℕ S) (ts : List TapLines) (t : TapLines) (key : String Y) (size : ℕ) → string_bytes key ≡ t.name → size ≡ length ts
    → UpdatesBy string_eq (string_eq key) m n (Some size) → ((text : List ℕ) → get_by_text m text ≡ place_in ts text) → place_in ts t.name ≡ None
    → (text : List ℕ) → get_by_text n text ≡ place_in (ts ++ t ∷ []) text
places-put m n ts t key size spells sized updates places first text =
    hash_map_updates_text (string_bytes key) m n (Some size) updates text
    ∙ ap (cond (bytes_eq (string_bytes key) text) (Some size)) (places text)
    ∙ rw (spells, sized) refl
    ∙ sym (place-push text ts t first)

-- a line with a new name begins a tap
pub with_line-new : (ts : List TapLines) (line : NamedLine) → place_in ts line.name ≡ None → with_line ts line ≡ ts ++ record { name = line.name; numbers = line.number ∷ [] } ∷ []
with_line-new [] line first = refl
with_line-new (t ∷ ts) line first =
    let absent = none_of (bytes_eq t.name line.name) (place_in ts line.name) first in
    rw absent.0 (ap (λ us. t ∷ us) (with_line-new ts line absent.1))

-- ---- a tap that is there

some_of : (b : Bool) (o : Option ℕ) (i : ℕ) → cond b (Some 0) (option_map suc o) ≡ Some (suc i) → (b ≡ false) × (o ≡ Some i)
some_of true o i e = cc
some_of false None i e = cc
some_of false (Some j) i e = let same : j ≡ i = cc in (refl, ap Some same)

first_of : (b : Bool) (o : Option ℕ) → cond b (Some 0) (option_map suc o) ≡ Some 0 → b ≡ true
first_of true o e = refl
first_of false None e = cc
first_of false (Some j) e = cc

-- the place of a name is within the list
pub place-within : (ts : List TapLines) (name : List ℕ) (i : ℕ) → place_in ts name ≡ Some i → i < length ts
place-within [] name i e = absurd (none-some i e)
place-within (t ∷ ts) name zero e = omega arith
place-within (t ∷ ts) name (suc i) e = let rest = place-within ts name i (some_of _ _ i e).1 in omega (arith, rest)

-- a line of a tap that is there is put after its others
pub with_line-at : (ts : List TapLines) (line : NamedLine) (i : ℕ) (t : TapLines) → place_in ts line.name ≡ Some i → get_or ts i t ≡ t
    → with_line ts line ≡ set ts i (record t { numbers = t.numbers ++ line.number ∷ [] })
with_line-at [] line i t e at = absurd (none-some i e)
with_line-at (u ∷ us) line zero t e at = rw (first_of _ _ e, at) refl
with_line-at (u ∷ us) line (suc i) t e at =
    let later = some_of _ _ i e in
    rw later.0 (ap (λ ts. u ∷ ts) (with_line-at us line i t later.1 at))

-- it changes no place
pub place-with_line : (ts : List TapLines) (line : NamedLine) (i : ℕ) → place_in ts line.name ≡ Some i → (text : List ℕ) → place_in (with_line ts line) text ≡ place_in ts text
place-with_line [] line i e text = absurd (none-some i e)
place-with_line (u ∷ us) line zero e text = rw (first_of _ _ e) refl
place-with_line (u ∷ us) line (suc i) e text =
    let later = some_of _ _ i e in
    rw later.0 (ap (λ o. cond (bytes_eq u.name text) (Some 0) (option_map suc o)) (place-with_line us line i later.1 text))

-- where no two taps have one name, a tap of the name is the first with it
pub place-at : (ts : List TapLines) (name : List ℕ) (i : ℕ) (t : TapLines) → AreNamedOnce ts → slice_get ts i ≡ Some t → bytes_eq t.name name ≡ true → place_in ts name ≡ Some i
place-at [] name i t once at is = absurd (none-some t at)
place-at (u ∷ us) name zero t once at is =
    let same : u ≡ t = cc in
    rw (same, is) refl
place-at (u ∷ us) name (suc i) t once at is = go (bytes_eq u.name name) refl (place-at us name i t once.1 at is)
  where
    go : (b : Bool) → bytes_eq u.name name ≡ b → place_in us name ≡ Some i → cond b (Some 0) (option_map suc (place_in us name)) ≡ Some (suc i)
    go true first later = absurd (none-some i (sym once.0 ∙ ap (place_in us) (same_text u.name name first) ∙ later))
    go false other later = ap (option_map suc) later

-- ---- no two taps have one name

-- a name that no tap has is still new after a line with another name
none-with_line : (ts : List TapLines) (line : NamedLine) (name : List ℕ) → place_in ts name ≡ None → bytes_eq line.name name ≡ false → place_in (with_line ts line) name ≡ None
none-with_line [] line name none other = none_again (bytes_eq line.name name) None other refl
none-with_line (t ∷ ts) line name none other = go (bytes_eq t.name line.name) (none_of (bytes_eq t.name name) (place_in ts name) none) (none-with_line ts line name)
  where
    go : (b : Bool) → (bytes_eq t.name name ≡ false) × (place_in ts name ≡ None) → (place_in ts name ≡ None → bytes_eq line.name name ≡ false → place_in (with_line ts line) name ≡ None)
        → place_in (cond b (record t { numbers = t.numbers ++ line.number ∷ [] } ∷ ts) (t ∷ with_line ts line)) name ≡ None
    go true absent ih = none_again _ _ absent.0 absent.1
    go false absent ih = none_again _ _ absent.0 (ih absent.1 other)

-- after a line no two taps have one name
pub once-with_line : (ts : List TapLines) (line : NamedLine) → AreNamedOnce ts → AreNamedOnce (with_line ts line)
once-with_line [] line once = (refl, tt)
once-with_line (t ∷ ts) line once = go (bytes_eq t.name line.name) refl (once-with_line ts line once.1)
  where
    go : (b : Bool) → bytes_eq t.name line.name ≡ b → AreNamedOnce (with_line ts line) → AreNamedOnce (cond b (record t { numbers = t.numbers ++ line.number ∷ [] } ∷ ts) (t ∷ with_line ts line))
    go true same rest = once
    go false other rest =
        let differ : bytes_eq line.name t.name ≡ false = other_text line.name t.name (λ e. true≢false (sym (itself_text t.name) ∙ ap (bytes_eq t.name) (sym e) ∙ other)) in
        (none-with_line ts line t.name once.0 differ, rest)
