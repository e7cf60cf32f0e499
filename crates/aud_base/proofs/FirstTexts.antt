-- Texts that go in one after another are kept where they are first given.
use Rattle.std.proofs.Common.{◌≡◌, ◌<◌, ◌+◌, ℕ, suc, Bool, true, false, cond, List, [], ◌∷◌, ◌++◌, length, map, take, get_or, Option, None, Some, refl, arith, bytes_eq, ◌||◌, sym, ap, ◌∙◌, add-one, append-nil, append_assoc}
use Rattle.std.specs.List.{list_any, filter_map, flat_map, cons_option}
use Rattle.std.specs.Option.{option_to_list}
use Rattle.std.specs.String.{string_bytes, string_eq}
use Rattle.std.specs.declared.string.String.{String}
use Rattle.std.proofs.lemmas.List.{map-append, length_push, take_more, flat_map_more}
use Rattle.std.proofs.lemmas.List.Elements.{filter_map-append}
use Rattle.std.proofs.lemmas.List.Folds.{list_any-append}
use Rattle.std.specs.Cmp.Lexicographic.{nat_list_eq_equiv}
use Rattle.std.proofs.Math.Bool.{or-true, or_assoc}
use Rattle.std.proofs.Math.Seq.{take-append_seam}
use Rattle.indexmap.specs.IndexSet.{insert_key}
use Rattle.aud_base.specs.FirstTexts.{first_text, first_texts, with_text, with_texts}
use Rattle.aud_base.specs.Lists.{numbers_from}
use Rattle.aud_base.proofs.Lists.{after_these, any-map}
use Rattle.aud_base.proofs.SameText.{same_text}
use Rattle.aud_base.proofs.Truth.{or_none}

-- ---- a set of strings

-- a text that is there
pub text-known : {Y : Type 0} (keys : List (String Y)) (text : List ℕ) → true ≡ list_any (λ k. bytes_eq text (string_bytes k)) keys → map string_bytes keys ≡ with_text (map string_bytes keys) text
text-known keys text known = grind (arith, any-map (bytes_eq text) string_bytes keys)

-- one that isn't
pub text-inserted : {Y : Type 0} (keys new : List (String Y)) (owned : String Y) (text : List ℕ) → string_bytes owned ≡ text → false ≡ list_any (λ k. bytes_eq text (string_bytes k)) keys
    → new ≡ insert_key string_eq keys owned → map string_bytes new ≡ with_text (map string_bytes keys) text
text-inserted keys new owned text is unknown inserted = grind (arith, any-map (bytes_eq text) string_bytes keys, map-append string_bytes keys (owned ∷ []))

-- ---- many texts

-- some texts, and then others, are both in order
pub with_texts-append : (texts xs ys : List (List ℕ)) → with_texts texts (xs ++ ys) ≡ with_texts (with_texts texts xs) ys
with_texts-append texts [] ys = refl
with_texts-append texts (x ∷ xs) ys = with_texts-append (with_text texts x) xs ys

-- a text that there may be, as a list
maybe_one : (o : Option (List ℕ)) → option_to_list o ≡ cons_option o []
maybe_one None = refl
maybe_one (Some t) = refl

module _ {X : Type 0} (xs : List X) (i : ℕ) (x : X) (within : i < length xs) (read : x ≡ get_or xs i x) where
  -- the texts of one element more
  pub with_texts-more : (of : X → List (List ℕ)) (texts : List (List ℕ)) → with_texts (with_texts texts (flat_map of (take i xs))) (of x) ≡ with_texts texts (flat_map of (take (i + 1) xs))
  with_texts-more of texts = grind (arith, with_texts-append texts (flat_map of (take i xs)) (of x), flat_map_more of [] (take i xs) x, take_more xs i x within)

  -- the text, if it has one, of one element more
  pub with_texts-item : (of : X → Option (List ℕ)) (texts : List (List ℕ))
      → with_texts (with_texts texts (filter_map of (take i xs))) (option_to_list (of x)) ≡ with_texts texts (filter_map of (take (i + 1) xs))
  with_texts-item of texts =
      sym (with_texts-append texts (filter_map of (take i xs)) (option_to_list (of x)))
      ∙ ap (with_texts texts)
      (ap (λ ts. filter_map of (take i xs) ++ ts) (maybe_one (of x)) ∙ sym (filter_map-append of (take i xs) (x ∷ []))
      ∙ ap (λ y. filter_map of (take i xs ++ y ∷ [])) read ∙ sym (ap (filter_map of) (take_more xs i x within)))

-- one text more of a list
pub with_texts-one : (texts xs : List (List ℕ)) (i : ℕ) (x : List ℕ) → i < length xs → x ≡ get_or xs i x → with_text (with_texts texts (take i xs)) x ≡ with_texts texts (take (i + 1) xs)
with_texts-one texts xs i x within read =
    sym (with_texts-append texts (take i xs) (x ∷ [])) ∙ ap (with_texts texts) (ap (λ y. take i xs ++ y ∷ []) read ∙ sym (take_more xs i x within))

-- what stands in the list with a text more: what stood there, and the text
pub any-with_text : (q t : List ℕ) (texts : List (List ℕ)) → list_any (bytes_eq q) (with_text texts t) ≡ list_any (bytes_eq q) texts || bytes_eq q t
any-with_text q t texts = grind (arith, same_text q t, or_none (list_any (bytes_eq q) texts), list_any-append (bytes_eq q) texts (t ∷ []))

-- the same of many texts
pub any-with_texts : (q : List ℕ) (texts xs : List (List ℕ)) → list_any (bytes_eq q) (with_texts texts xs) ≡ list_any (bytes_eq q) texts || list_any (bytes_eq q) xs
any-with_texts q texts [] = sym (or_none (list_any (bytes_eq q) texts))
any-with_texts q texts (x ∷ xs) =
    any-with_texts q (with_text texts x) xs ∙ ap (λ b. b || list_any (bytes_eq q) xs) (any-with_text q x texts) ∙ or_assoc (list_any (bytes_eq q) texts) (bytes_eq q x) (list_any (bytes_eq q) xs)

-- a text that is asked for the other way round
any-flipped : (q : List ℕ) (texts : List (List ℕ)) → list_any (λ t. bytes_eq t q) texts ≡ list_any (bytes_eq q) texts
any-flipped q [] = refl
any-flipped q (t ∷ texts) = ap (λ b. b || list_any (λ s. bytes_eq s q) texts) (nat_list_eq_equiv.symm t q) ∙ ap (λ b. bytes_eq q t || b) (any-flipped q texts)

-- what stands among texts of which each is given once
pub any-once : (q : List ℕ) (xs : List (List ℕ)) → list_any (λ t. bytes_eq t q) (with_texts [] xs) ≡ list_any (λ t. bytes_eq t q) xs
any-once q xs = any-flipped q (with_texts [] xs) ∙ any-with_texts q [] xs ∙ sym (any-flipped q xs)

-- a text that goes in last, after texts of which each went in once
later-text : (texts acc : List (List ℕ)) (t : List ℕ) → with_texts texts (with_text acc t) ≡ with_text (with_texts texts acc) t
later-text texts acc t = go (list_any (bytes_eq t) acc) refl
  where
    there : list_any (bytes_eq t) acc ≡ true → with_text (with_texts texts acc) t ≡ with_texts texts acc
    there is = ap (λ b. cond b (with_texts texts acc) (with_texts texts acc ++ t ∷ [])) (any-with_texts t texts acc ∙ ap (λ b. list_any (bytes_eq t) texts || b) is ∙ or-true (list_any (bytes_eq t) texts))

    go : (b : Bool) → list_any (bytes_eq t) acc ≡ b → with_texts texts (cond b acc (acc ++ t ∷ [])) ≡ with_text (with_texts texts acc) t
    go true is = sym (there is)
    go false is = with_texts-append texts acc (t ∷ [])

once-from : (texts acc xs : List (List ℕ)) → with_texts texts (with_texts acc xs) ≡ with_texts (with_texts texts acc) xs
once-from texts acc [] = refl
once-from texts acc (x ∷ xs) = once-from texts (with_text acc x) xs ∙ ap (λ ts. with_texts ts xs) (later-text texts acc x)

-- texts of which each is given once bring what all of them do
pub with_texts-once : (texts xs : List (List ℕ)) → with_texts texts (with_texts [] xs) ≡ with_texts texts xs
with_texts-once texts xs = once-from texts [] xs

-- ---- texts that go in one after another are those that are first given

-- where the list has what stands before, it gains those first given after that
gained : (texts before after : List (List ℕ)) → ((q : List ℕ) → list_any (bytes_eq q) texts ≡ list_any (bytes_eq q) before)
    → with_texts texts after ≡ texts ++ filter_map (first_text (before ++ after)) (numbers_from (length before) (length after))
gained texts before [] same = sym (append-nil texts)
gained texts before (t ∷ after) same =
    gained (with_text texts t) (before ++ t ∷ []) after more
    ∙ ap (λ ts. with_text texts t ++ filter_map (first_text ts) (numbers_from (length (before ++ t ∷ [])) (length after))) (append_assoc before (t ∷ []) after)
    ∙ grind (arith, length_push before t, add-one (length before), same t, take-append_seam before (t ∷ after), after_these before after t, append_assoc texts (t ∷ []) later)
  where
    later : List (List ℕ)
    later = filter_map (first_text (before ++ t ∷ after)) (numbers_from (suc (length before)) (length after))

    more : (q : List ℕ) → list_any (bytes_eq q) (with_text texts t) ≡ list_any (bytes_eq q) (before ++ t ∷ [])
    more q = grind (arith, any-with_text q t texts, same q, list_any-append (bytes_eq q) before (t ∷ []), or_none (bytes_eq q t))

-- the code's list is that of the texts that are first given
pub first-texts : (texts : List (List ℕ)) → with_texts [] texts ≡ first_texts texts
first-texts texts = gained [] [] texts (λ q. refl)
