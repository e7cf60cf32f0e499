-- Lists whose elements belong together, one more at a time.
use Rattle.std.proofs.Common.{◌≡◌, ◌<◌, ◌+◌, ◌++◌, ℕ, List, [], ◌∷◌, length, take, get_or, sym, subst}
use Rattle.std.specs.List.{AllZip}
use Rattle.std.proofs.lemmas.List.{take_more}
use Rattle.aud_findings.proofs.Read.{zip_append}

-- one more
pub zip_more : {A B : Type 0} (R : A → B → Type 0) (xs : List A) (i : ℕ) (d : A) (ys new : List B) (y : B) → i < length xs → R (get_or xs i d) y
    → new ≡ ys ++ y ∷ [] → AllZip R (take i xs) ys → AllZip R (take (i + 1) xs) new
zip_more R xs i d ys new y h is more was =
    subst (λ zs. AllZip R zs new) (sym (take_more xs i d h))
    (subst (λ zs. AllZip R (take i xs ++ get_or xs i d ∷ []) zs) (sym more)
    (zip_append R (take i xs) ys (get_or xs i d ∷ []) (y ∷ []) was (is, tt)))
