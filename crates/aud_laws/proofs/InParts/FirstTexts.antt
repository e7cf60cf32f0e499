-- Texts, each kept where it is first given, and those of them that pass a test.
use Rattle.std.proofs.Common.{◌≡◌, ℕ, Bool, true, false, cond, ◌||◌, List, [], ◌∷◌, ◌++◌, filter, refl, sym, ap, ◌∙◌, append-nil, bytes_eq}
use Rattle.std.specs.List.{All, list_any}
use Rattle.std.proofs.lemmas.Bool.{false≢true, or_left}
use Rattle.std.proofs.lemmas.List.Elements.{All-head, All-tail, filter-append, filter_passes}
use Rattle.aud_base.specs.FirstTexts.{first_texts, with_text, with_texts}
use Rattle.aud_base.proofs.FirstTexts.{first-texts}
use Rattle.aud_base.proofs.SameText.{same_text, itself_text}
use Rattle.aud_laws.proofs.InParts.Lists.{some-kept}

module _ (keeps : List ℕ → Bool) where
  -- a text that passes stands among those that pass where it stands among all
  any-kept : (t : List ℕ) → keeps t ≡ true → (texts : List (List ℕ)) → list_any (bytes_eq t) (filter keeps texts) ≡ list_any (bytes_eq t) texts
  any-kept t kept [] = refl
  any-kept t kept (x ∷ xs) = go (keeps x) refl (any-kept t kept xs)
    where
      differs : keeps x ≡ false → (b : Bool) → bytes_eq t x ≡ b → b ≡ false
      differs out true same = absurd (false≢true (sym out ∙ ap keeps (sym (same_text t x same)) ∙ kept))
      differs out false other = refl

      go : (b : Bool) → keeps x ≡ b → list_any (bytes_eq t) (filter keeps xs) ≡ list_any (bytes_eq t) xs
          → list_any (bytes_eq t) (cond b (x ∷ filter keeps xs) (filter keeps xs)) ≡ (bytes_eq t x || list_any (bytes_eq t) xs)
      go true is ih = ap (λ b. bytes_eq t x || b) ih
      go false out ih = ih ∙ ap (λ b. b || list_any (bytes_eq t) xs) (sym (differs out (bytes_eq t x) refl))

  -- one more that passes
  kept-more : (texts : List (List ℕ)) (t : List ℕ) → keeps t ≡ true → filter keeps (with_text texts t) ≡ with_text (filter keeps texts) t
  kept-more texts t kept = go (list_any (bytes_eq t) texts) refl
    where
      go : (b : Bool) → list_any (bytes_eq t) texts ≡ b → filter keeps (cond b texts (texts ++ t ∷ [])) ≡ with_text (filter keeps texts) t
      go true is = sym (ap (λ b. cond b (filter keeps texts) (filter keeps texts ++ t ∷ [])) (any-kept t kept texts ∙ is))
      go false is =
          filter-append keeps texts (t ∷ [])
          ∙ ap (λ b. filter keeps texts ++ cond b (t ∷ []) []) kept
          ∙ sym (ap (λ b. cond b (filter keeps texts) (filter keeps texts ++ t ∷ [])) (any-kept t kept texts ∙ is))

  -- one more that fails
  left-more : (texts : List (List ℕ)) (t : List ℕ) → keeps t ≡ false → filter keeps (with_text texts t) ≡ filter keeps texts
  left-more texts t out = go (list_any (bytes_eq t) texts)
    where
      go : (b : Bool) → filter keeps (cond b texts (texts ++ t ∷ [])) ≡ filter keeps texts
      go true = refl
      go false = filter-append keeps texts (t ∷ []) ∙ ap (λ b. filter keeps texts ++ cond b (t ∷ []) []) out ∙ append-nil (filter keeps texts)

  kept-all : (texts xs : List (List ℕ)) → with_texts (filter keeps texts) (filter keeps xs) ≡ filter keeps (with_texts texts xs)
  kept-all texts [] = refl
  kept-all texts (x ∷ xs) = go (keeps x) refl (kept-all (with_text texts x) xs)
    where
      go : (b : Bool) → keeps x ≡ b → with_texts (filter keeps (with_text texts x)) (filter keeps xs) ≡ filter keeps (with_texts (with_text texts x) xs)
          → with_texts (filter keeps texts) (cond b (x ∷ filter keeps xs) (filter keeps xs)) ≡ filter keeps (with_texts (with_text texts x) xs)
      go true is ih = ap (λ ts. with_texts ts (filter keeps xs)) (sym (kept-more texts x is)) ∙ ih
      go false out ih = ap (λ ts. with_texts ts (filter keeps xs)) (sym (left-more texts x out)) ∙ ih

  -- the first of those that pass are those that pass of the first
  pub first-kept : (texts : List (List ℕ)) → first_texts (filter keeps texts) ≡ filter keeps (first_texts texts)
  first-kept texts = sym (first-texts (filter keeps texts)) ∙ kept-all [] texts ∙ ap (filter keeps) (first-texts texts)

-- ---- each stands once

module _ (q : List ℕ) where
  abbrev is_it : List ℕ → Bool
  is_it t = bytes_eq t q

  -- the same text again
  again : (texts : List (List ℕ)) → All (λ t. is_it t ≡ true) texts → with_texts (q ∷ []) texts ≡ q ∷ []
  again [] all = refl
  again (t ∷ texts) all =
      ap (λ x. with_texts (with_text (q ∷ []) x) texts) (same_text t q (All-head (λ x. is_it x ≡ true) t texts all))
      ∙ ap (λ b. with_texts (cond b (q ∷ []) (q ∷ q ∷ [])) texts) (or_left (bytes_eq q q) false (itself_text q))
      ∙ again texts (All-tail (λ x. is_it x ≡ true) t texts all)

  -- where it is given alone, it is the one that is first given
  alone : (given : List (List ℕ)) → All (λ t. is_it t ≡ true) given → (y : List ℕ) (ys : List (List ℕ)) → first_texts given ≡ y ∷ ys → first_texts given ≡ q ∷ []
  alone [] all y ys is = absurd (let none : [] ≡ y ∷ ys = is in cc)
  alone (t ∷ given) all y ys is =
      sym (first-texts (t ∷ given))
      ∙ ap (λ x. with_texts (x ∷ []) given) (same_text t q (All-head (λ x. is_it x ≡ true) t given all))
      ∙ again given (All-tail (λ x. is_it x ≡ true) t given all)

  -- a text that is given stands once among those that are first given
  pub stands-once : (texts : List (List ℕ)) → list_any is_it (first_texts texts) ≡ true → filter is_it (first_texts texts) ≡ q ∷ []
  stands-once texts there =
      let (y, ys, some) = some-kept is_it (first_texts texts) there in
      sym (first-kept is_it texts) ∙ alone (filter is_it texts) (filter_passes is_it texts) y ys (first-kept is_it texts ∙ some)
