-- Arrays, as far as they are written.
use Rattle.std.proofs.Common.{◌≡◌, ℕ, zero, suc, ◌+◌, ◌<◌, take, List, [], ◌∷◌, ◌++◌, length, get_or, refl, arith}
use Rattle.serde_json.specs.Data.{Data}
use Rattle.serde_json.specs.View.{view, items_view}
use Rattle.serde_json.specs.declared.value.Value.{Value}
use Rattle.aud_cert.specs.Text.{items}
use Rattle.aud_cert.proofs.Lists.{items-more}

-- an element that is there, whatever stands for one that isn't
get_or-any : {A : Type 0} (xs : List A) (i : ℕ) (d e : A) → i < length xs → get_or xs i d ≡ get_or xs i e
get_or-any [] i d e h = absurd (omega arith)
get_or-any (x ∷ xs) zero d e h = refl
get_or-any (x ∷ xs) (suc i) d e h = get_or-any xs i d e (omega arith)

-- the items written so far, and one more
pub items-next : {A : Type 0} (data_of : A → Data) (vs : List Value) (xs : List A) (i : ℕ) (v : Value) (d : A) → i < length xs → view v ≡ data_of (get_or xs i d)
    → items_view vs ≡ items data_of (take i xs) → items_view (vs ++ v ∷ []) ≡ items data_of (take (i + 1) xs)
items-next data_of vs xs i v d h is same = items-more data_of vs xs i v (get_or xs i d) h (get_or-any xs i d (get_or xs i d) h) is same
