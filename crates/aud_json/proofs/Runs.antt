-- Runs of bytes that pass a test, seen 16 bytes at a time.
use Rattle.std.proofs.Common.{◌≡◌, ℕ, zero, suc, ◌+◌, ◌*◌, ◌<◌, ◌≤◌, Bool, true, false, cond, not, eqb, List, [], ◌∷◌, ◌++◌, length, map, take, drop, Option, Some, None, MatchOption, refl, sym, ap, ◌∙◌, arith}
use Rattle.std.proofs.lemmas.List.{length-take-le, take-take}
use Rattle.std.proofs.lemmas.Simd.{chunk-drop, length-chunk, take_more_put_chunk}
use Rattle.std.proofs.lemmas.List.Folds.{prefix_len-append}
use Rattle.std.proofs.lemmas.Bool.{eq-eqb, ne_eqb}
use Rattle.std.specs.List.{prefix_len}
use lib.Lanes.{chunk, mask_l, put_chunk}
use Rattle.aud_json.specs.Private.Unescaped.{IsCopied}
use Rattle.json.specs.Run.{is_plain, is_stop}

module _ (p : ℕ → Bool) where
  run_of_take : (b : Bool) (m n : ℕ) → m ≤ n → cond b (1 + m) 0 ≤ cond b (1 + n) 0
  run_of_take true m n h = omega arith
  run_of_take false m n h = omega arith

  -- the run in a part is no longer
  pub prefix_len-take : (k : ℕ) (xs : List ℕ) → prefix_len p (take k xs) ≤ prefix_len p xs
  prefix_len-take zero xs = omega arith
  prefix_len-take (suc k) [] = omega arith
  prefix_len-take (suc k) (x ∷ xs) = run_of_take (p x) _ _ (prefix_len-take k xs)

  front_more : (x : ℕ) (xs : List ℕ) (n : ℕ) (b : Bool) → p x ≡ b → prefix_len p (take n xs) ≡ n → prefix_len p (take (cond b (1 + n) 0) (x ∷ xs)) ≡ cond b (1 + n) 0
  front_more x xs n false e ih = refl
  front_more x xs n true e ih = let next : 1 + n ≡ suc n = omega arith in rw next (rw e (ap (λ k. 1 + k) ih ∙ next))

  -- the run by itself
  pub prefix_len-front : (xs : List ℕ) → prefix_len p (take (prefix_len p xs) xs) ≡ prefix_len p xs
  prefix_len-front [] = refl
  prefix_len-front (x ∷ xs) = front_more x xs (prefix_len p xs) (p x) refl (prefix_len-front xs)

  module _ (d : List ℕ) (i n : ℕ) (room : i + n ≤ length d) where
    split : prefix_len p (drop i d) ≡ cond (eqb (prefix_len p (chunk i n d)) n) (n + prefix_len p (drop (i + n) d)) (prefix_len p (chunk i n d))
    split = ap (prefix_len p) (chunk-drop i n d) ∙ prefix_len-append p (chunk i n d) (drop (i + n) d)
        ∙ ap (λ k. cond (eqb (prefix_len p (chunk i n d)) k) (k + prefix_len p (drop (i + n) d)) (prefix_len p (chunk i n d))) (length-chunk i n d room)

    -- it ends among the next bytes
    pub run_stops : prefix_len p (chunk i n d) < n → prefix_len p (drop i d) ≡ prefix_len p (chunk i n d)
    run_stops h = split ∙ ap (λ b. cond b (n + prefix_len p (drop (i + n) d)) (prefix_len p (chunk i n d))) (ne_eqb _ _ (λ e. omega arith))

    -- it goes on after them
    pub run_through : prefix_len p (chunk i n d) ≡ n → prefix_len p (drop i d) ≡ n + prefix_len p (drop (i + n) d)
    run_through e = split ∙ ap (λ b. cond b (n + prefix_len p (drop (i + n) d)) (prefix_len p (chunk i n d))) (eq-eqb _ _ e)

-- ---- bytes with a stop among them

stop_first : (b : Bool) (x : ℕ) (xs : List ℕ) → is_stop x ≡ b → 0 < cond b 1 0 + 2 * mask_l (map is_stop xs) → (0 < mask_l (map is_stop xs) → prefix_len is_plain xs < length xs) → cond (not b) (1 + prefix_len is_plain xs) 0 < suc (length xs)
stop_first true x xs e h more = omega arith
stop_first false x xs e h more = let shorter = more (omega arith) in omega (arith, shorter)

-- not all are plain
pub some_stop : (xs : List ℕ) → 0 < mask_l (map is_stop xs) → prefix_len is_plain xs < length xs
some_stop [] h = absurd (omega arith)
some_stop (x ∷ xs) h = stop_first (is_stop x) x xs refl h (some_stop xs)

-- ---- what was copied

take-append-add : (xs ys : List ℕ) (n : ℕ) → take (length xs + n) (xs ++ ys) ≡ xs ++ take n ys
take-append-add [] ys n = let e : 0 + n ≡ n = omega arith in ap (λ k. take k ys) e
take-append-add (x ∷ xs) ys n = let e : suc (length xs) + n ≡ suc (length xs + n) = omega arith in ap (λ k. take k (x ∷ (xs ++ ys))) e ∙ ap (λ l. x ∷ l) (take-append-add xs ys n)

-- a part of what was written after a place
pub cut_back : (out old run : List ℕ) (at k n : ℕ) → n ≤ k → at ≤ length old → take (at + k) out ≡ take at old ++ take k run → take (at + n) out ≡ take at old ++ take n run
cut_back out old run at k n le within e =
    let long = length-take-le at old within in
    sym (take-take (at + n) (at + k) out (omega arith)) ∙ ap (take (at + n)) e ∙ ap (λ j. take (j + n) (take at old ++ take k run)) (sym long)
    ∙ take-append-add (take at old) (take k run) n ∙ ap (λ x. take at old ++ x) (take-take n k run le)

-- some of the next 16 bytes
copied_some : (text old : List ℕ) (from to n : ℕ) → from + 16 ≤ length text → to + 16 ≤ length old → n ≤ prefix_len is_plain (chunk from 16 text) → n ≤ 16 → IsCopied text from old to n (put_chunk to old (chunk from 16 text))
copied_some text old from to n within room plain few =
    let long : length (chunk from 16 text) ≡ 16 = length-chunk from 16 text within in
    let written = take_more_put_chunk to old (chunk from 16 text) (to + 16) (omega arith) room in
    (omega (arith, plain, prefix_len-take is_plain 16 (drop from text)), cut_back (put_chunk to old (chunk from 16 text)) old (drop from text) to 16 n few (omega arith) written)

-- those before the first that is not plain, or all
pub copied : (text old : List ℕ) (from to : ℕ) (r : Option ℕ) → from + 16 ≤ length text → to + 16 ≤ length old
    → MatchOption r (prefix_len is_plain (chunk from 16 text) ≡ 16) (λ n. (n ≡ prefix_len is_plain (chunk from 16 text)) × (n < 16))
    → MatchOption r (IsCopied text from old to 16 (put_chunk to old (chunk from 16 text))) (λ n. IsCopied text from old to n (put_chunk to old (chunk from 16 text)) × (n < 16))
copied text old from to None within room all = copied_some text old from to 16 within room (omega (arith, all)) (omega arith)
copied text old from to (Some n) within room few = (copied_some text old from to n within room (omega (arith, few.0)) (omega (arith, few.1)), few.1)
