-- Texts, one for each element.
use Rattle.std.proofs.Common.{◌≡◌, ℕ, ◌+◌, ◌<◌, take, flat_map, List, [], ◌∷◌, ◌++◌, length, get_or, refl, sym, ap, ◌∙◌, add-one}
use Rattle.std.proofs.Math.Seq.{take-suc}
use Rattle.std.proofs.lemmas.List.{flat_map_more}

-- one element more
next : {A : Type 0} (xs : List A) (i : ℕ) (x : A) → i < length xs → x ≡ get_or xs i x → take (i + 1) xs ≡ take i xs ++ x ∷ []
next xs i x h at = rw (add-one, take-suc xs i x h, ← at) refl

-- the texts of the elements so far, and one more
pub each-more : {A : Type 0} (f : A → List ℕ) (old out start : List ℕ) (xs : List A) (i : ℕ) (x : A) → i < length xs → x ≡ get_or xs i x
    → old ≡ start ++ flat_map f (take i xs) → out ≡ old ++ f x → out ≡ start ++ flat_map f (take (i + 1) xs)
each-more f old out start xs i x h at before is =
    is
    ∙ ap (λ b. b ++ f x) before
    ∙ flat_map_more f start (take i xs) x
    ∙ ap (λ b. start ++ flat_map f b) (sym (next xs i x h at))
