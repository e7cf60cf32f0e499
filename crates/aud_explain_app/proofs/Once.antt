-- Texts that go in one after another, each once.
use Rattle.std.proofs.Common.{◌≡◌, ℕ, ◌++◌, Bool, true, false, cond, eqb, List, [], ◌∷◌, length, length-append, flat_map, bytes_eq, sym, ap, ◌∙◌, append-nil, arith}
use Rattle.std.specs.List.{list_any}
use Rattle.std.proofs.lemmas.Bool.Decides.{nat_tests}
use Rattle.std.proofs.lemmas.Grind.{flat_map-append}
use Rattle.aud_base.specs.FirstTexts.{with_text}

-- what each text adds, one more
pub flat_once : {X : Type 0} (f : List ℕ → List X) (texts : List (List ℕ)) (text : List ℕ)
    → flat_map f (with_text texts text) ≡ flat_map f texts ++ cond (list_any (bytes_eq text) texts) [] (f text)
flat_once {X} f texts text = go (list_any (bytes_eq text) texts)
  where
    go : (b : Bool) → flat_map f (cond b texts (texts ++ text ∷ [])) ≡ flat_map f texts ++ cond b [] (f text)
    go true = sym (append-nil (flat_map f texts))
    go false = flat_map-append f texts (text ∷ []) ∙ ap (λ more. flat_map f texts ++ more) (append-nil (f text))

-- the texts are as many as before exactly where the text was there
pub counted_once : (texts : List (List ℕ)) (text : List ℕ) → eqb (length (with_text texts text)) (length texts) ≡ list_any (bytes_eq text) texts
counted_once texts text = go (list_any (bytes_eq text) texts)
  where
    same : (n : ℕ) → eqb n n ≡ true
    same n = grind (arith, nat_tests)

    go : (b : Bool) → eqb (length (cond b texts (texts ++ text ∷ []))) (length texts) ≡ b
    go true = same (length texts)
    go false = let more = length-append texts (text ∷ []) in grind (arith, nat_tests)
