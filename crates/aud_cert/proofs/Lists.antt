-- Lists, as far as they are read or written.
use Rattle.std.proofs.Common.{◌≡◌, ℕ, suc, ◌+◌, ◌<◌, take, drop, sym, ◌∙◌, List, [], ◌∷◌, ◌++◌, length, get_or, Result, Ok, Err, refl, ap, append_assoc, drop-cons, add-one}
use Rattle.std.proofs.Math.Seq.{take-suc}
use Rattle.serde_json.specs.Data.{Data, item}
use Rattle.serde_json.specs.View.{view, items_view}
use Rattle.serde_json.specs.declared.value.Value.{Value}
use Rattle.aud_tap.proofs.Json.{with_last, items_view-push}
use Rattle.aud_cert.specs.declared.text_fault.CertFault.{CertFault}
use Rattle.aud_cert.specs.Steps.{◌>>=◌, each}
use Rattle.aud_cert.specs.Parsed.{each_item}
use Rattle.aud_cert.specs.Text.{items}

-- what was read so far, and then what is left
abbrev pub with_front : {A : Type 0} → List A → Result (List A) CertFault → Result (List A) CertFault
with_front front rest = rest >>= (λ xs. Ok (front ++ xs))

-- an item put to those read is the first of those left
with_front-item : {A : Type 0} (front : List A) (x : A) (rest : Result (List A) CertFault) → with_front (front ++ x ∷ []) rest ≡ with_front front (rest >>= (λ xs. Ok (x ∷ xs)))
with_front-item front x (Err e) = refl
with_front-item front x (Ok xs) = ap Ok (append_assoc front (x ∷ []) xs)

-- one more item that was read
pub each_item-ok : {A : Type 0} (step : Data → Result A CertFault) (vs : List Value) (i : ℕ) (v : Value) (x : A) (front : List A) → i < length vs → v ≡ get_or vs i v → step (view v) ≡ Ok x
    → with_front (front ++ x ∷ []) (each_item step (items_view (drop (i + 1) vs))) ≡ with_front front (each_item step (items_view (drop i vs)))
each_item-ok step vs i v x front h is ok = rw (add-one, drop-cons vs i v h, ← is, ok) (with_front-item front x (each_item step (items_view (drop (suc i) vs))))

-- one more element
pub each-ok : {A B : Type 0} (step : A → Result B CertFault) (xs : List A) (i : ℕ) (x : A) (y : B) (front : List B) → i < length xs → x ≡ get_or xs i x → step x ≡ Ok y
    → with_front (front ++ y ∷ []) (each step (drop (i + 1) xs)) ≡ with_front front (each step (drop i xs))
each-ok step xs i x y front h is ok = rw (add-one, drop-cons xs i x h, ← is, ok) (with_front-item front y (each step (drop (suc i) xs)))

-- an item that is refused
pub each_item-fails : {A : Type 0} (step : Data → Result A CertFault) (vs : List Value) (i : ℕ) (v : Value) (e : CertFault) (front : List A) → i < length vs → v ≡ get_or vs i v → step (view v) ≡ Err e
    → with_front front (each_item step (items_view (drop i vs))) ≡ Err e
each_item-fails step vs i v e front h is fails = rw (drop-cons vs i v h, ← is, fails) refl

-- an element that is refused
pub each-fails : {A B : Type 0} (step : A → Result B CertFault) (xs : List A) (i : ℕ) (x : A) (e : CertFault) (front : List B) → i < length xs → x ≡ get_or xs i x → step x ≡ Err e
    → with_front front (each step (drop i xs)) ≡ Err e
each-fails step xs i x e front h is fails = rw (drop-cons xs i x h, ← is, fails) refl

-- ---- items of an array, as they are written

-- one more element is written as one more item
items-push : {A : Type 0} (data_of : A → Data) (xs : List A) (x : A) → items data_of (xs ++ x ∷ []) ≡ with_last (items data_of xs) (data_of x)
items-push data_of [] x = refl
items-push data_of (y ∷ xs) x = ap (item (data_of y)) (items-push data_of xs x)

-- the items written so far after a first one, and one more
pub items-after : {A : Type 0} (data_of : A → Data) (first : Data) (vs : List Value) (xs : List A) (i : ℕ) (v : Value) (d : A) → i < length xs → view v ≡ data_of (get_or xs i d)
    → items_view vs ≡ item first (items data_of (take i xs)) → items_view (vs ++ v ∷ []) ≡ item first (items data_of (take (i + 1) xs))
items-after data_of first vs xs i v d h is same =
    rw (add-one, take-suc xs i d h) (items_view-push vs v ∙ rw (same, is) (ap (item first) (sym (items-push data_of (take i xs) (get_or xs i d)))))

-- the items written so far, and one more
pub items-more : {A : Type 0} (data_of : A → Data) (vs : List Value) (xs : List A) (i : ℕ) (v : Value) (x : A) → i < length xs → x ≡ get_or xs i x → view v ≡ data_of x
    → items_view vs ≡ items data_of (take i xs) → items_view (vs ++ v ∷ []) ≡ items data_of (take (i + 1) xs)
items-more data_of vs xs i v x h at is same =
    rw (add-one, take-suc xs i x h, ← at) (items_view-push vs v ∙ rw (same, is) (sym (items-push data_of (take i xs) x)))
