-- A whole number is one lexeme.
use Rattle.std.proofs.Common.{◌≡◌, ℕ, ◌+◌, ◌<◌, true, List, [], ◌∷◌, length, take, drop, get_or, Some, ◌⊎◌, inl, inr, sym, ap, ◌∙◌, arith}
use Rattle.std.proofs.lemmas.Bool.{ne_eqb, cases_eq, true≢false}
use Rattle.std.proofs.lemmas.List.{drop_all, drop_more, take-append-drop, length-take-le, get_or-take, get_or_default}
use Rattle.std.proofs.lemmas.List.Sums.{prefix_len_passes}
use Rattle.std.specs.List.{prefix_len}
use Rattle.std.specs.Char.{is_ascii_digit}
use Rattle.json.specs.Token.{number}
use Rattle.json.specs.Word.{head, ends_word, after_whole, after_number}
use Rattle.json.specs.Lex.{between, lex, token}
use Rattle.json.specs.Print.{IsNumber}
use Rattle.json.proofs.Printed.Numbers.{lex-number}
use Rattle.aud_json.proofs.Runs.{prefix_len-front}

-- one 0, or digits of which the first is another, are the whole part of a number
whole_digits : (s : List ℕ) → prefix_len is_ascii_digit s ≡ length s → 0 < length s → (head s ≡ 48 → length s ≡ 1) → after_whole s ≡ Some []
whole_digits s all some lone = go (cases_eq (head s) 48)
  where
    go : (head s ≡ 48) ⊎ (head s ≡ 48 → ⊥) → after_whole s ≡ Some []
    go (inl e) = rw e (ap Some (drop_all 1 s (omega (arith, lone e))))
    go (inr n) = rw (ne_eqb (head s) 48 n, all, ne_eqb (length s) 0 (λ e. omega arith)) (ap Some (drop_all (length s) s (omega arith)))

digits_number : (s : List ℕ) → prefix_len is_ascii_digit s ≡ length s → (head s ≡ 45 → ⊥) → 0 < length s → (head s ≡ 48 → length s ≡ 1) → IsNumber s
unfolding after_number
digits_number s all plus some lone = rw (ne_eqb (head s) 45 plus, whole_digits s all some lone)

-- digits before a comma or a brace are a number
pub lex_digits : (t : List ℕ) (n : ℕ) → n ≡ prefix_len is_ascii_digit t → 0 < n → (get_or t 0 0 ≡ 48 → n ≡ 1) → n < length t → (get_or t n 0 ≡ 44) ⊎ (get_or t n 0 ≡ 125)
    → lex between t ≡ token (number (take n t)) ∷ lex between (drop n t)
lex_digits t n is some lone within ends =
    let s = take n t in
    let size : length s ≡ n = length-take-le n t (omega arith) in
    let first : head s ≡ get_or t 0 0 = get_or-take n t 0 32 some ∙ get_or_default t 0 32 0 (omega arith) in
    let digit : is_ascii_digit (get_or t 0 0) ≡ true = prefix_len_passes is_ascii_digit t 0 0 (omega arith) in
    let plus : head s ≡ 45 → ⊥ = λ e. true≢false (sym digit ∙ ap is_ascii_digit (sym first ∙ e)) in
    let all : prefix_len is_ascii_digit s ≡ length s = ap (λ k. prefix_len is_ascii_digit (take k t)) is ∙ prefix_len-front is_ascii_digit t ∙ sym is ∙ sym size in
    let next : drop n t ≡ get_or t n 0 ∷ drop (n + 1) t = drop_more t n 0 within in
    ap (lex between) (sym (take-append-drop n t)) ∙ lex-number s (drop n t) (digits_number s all plus (omega arith) (λ e. size ∙ lone (sym first ∙ e))) (ap ends_word next ∙ ended ends)
  where
    ended : (get_or t n 0 ≡ 44) ⊎ (get_or t n 0 ≡ 125) → ends_word (get_or t n 0 ∷ drop (n + 1) t) ≡ true
    ended (inl e) = rw e
    ended (inr e) = rw e
