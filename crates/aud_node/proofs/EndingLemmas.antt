-- What stands between the last two quotes of a text, by the searches of std.
use Rattle.std.proofs.Common.{◌≡◌, ◌≢◌, ℕ, ◌-◌, ◌<◌, ◌≤◌, zero, suc, true, false, cond, eqb, List, [], ◌∷◌, length, get_or, take, drop, sym, ap, ◌∙◌, subst, refl, arith, Option, Some, None, option_map, option_copied, MatchOption, Bor}
use Rattle.std.specs.Option.{option_or}
use Rattle.std.specs.Str.{IsCharBoundary}
use Rattle.std.specs.Str.Pattern.{RFindsChar, FindsTextSuffix, SplitsAroundMatch, StripsSuffix}
use Rattle.std.proofs.lemmas.Bool.{ne_eqb, eq-eqb}
use Rattle.std.proofs.lemmas.Str.Pattern.{NoCharPasses-char, drop_at_char, ends_text}
use Rattle.aud_node.specs.Private.KnownIndex.{after_last, without_end}

-- nothing follows a byte that the text hasn't
after_last-none : (byte : ℕ) (bs : List ℕ) → ((i : ℕ) → i < length bs → get_or bs i 0 ≢ byte) → after_last byte bs ≡ None
after_last-none byte [] none = refl
after_last-none byte (b ∷ bs) none =
    ap (λ o. option_or o (cond (eqb b byte) (Some bs) None)) (after_last-none byte bs (λ i h. none (suc i) (omega arith)))
    ∙ ap (λ t. cond t (Some bs) None) (ne_eqb b byte (none 0 (omega arith)))

-- what follows a byte that doesn't come again
after_last-at : (byte : ℕ) (bs : List ℕ) (i : ℕ) (rest : List ℕ) → drop i bs ≡ byte ∷ rest → after_last byte rest ≡ None → after_last byte bs ≡ Some rest
after_last-at byte bs zero rest here last =
    ap (after_last byte) here ∙ ap (λ o. option_or o (cond (eqb byte byte) (Some rest) None)) last ∙ ap (λ t. cond t (Some rest) None) (eq-eqb byte byte refl)
after_last-at byte [] (suc i) rest here last = cc
after_last-at byte (b ∷ bs) (suc i) rest here last =
    ap (λ o. option_or o (cond (eqb b byte) (Some bs) None)) (after_last-at byte bs i rest here last)

-- what `rsplit_once` at an ASCII character gives after it
pub after_last-rsplit : (c : ℕ) (bs : List ℕ) (r : Option (Bor (List ℕ) × Bor (List ℕ))) → MatchOption r (RFindsChar c bs None) (λ x. SplitsAroundMatch (RFindsChar c) bs x.0.now x.1.now) → c < 128
    → option_map (λ x. x.1.now) r ≡ after_last c bs
after_last-rsplit c bs None h low = sym (after_last-none c bs (λ i l. NoCharPasses-char c bs i h low l))
after_last-rsplit c bs (Some x) (i, j, (free, at), front, back, _, _, _) low =
    ap Some back
    ∙ sym (after_last-at c bs i (drop j bs) (drop_at_char c bs i j at low) (after_last-none c (drop j bs) (λ k l. NoCharPasses-char c (drop j bs) k free low l)))

-- what `strip_suffix` at a text gives
pub without_end-strip : (end bs : List ℕ) (r : Option (Bor (List ℕ))) → MatchOption r (FindsTextSuffix end bs None) (λ x. StripsSuffix (FindsTextSuffix end) bs x.now)
    → option_copied r ≡ without_end end bs
without_end-strip end bs None h = ap (λ b. cond b (Some (take (length bs - length end) bs)) None) (ends_text false end bs h)
without_end-strip end bs (Some x) (n, (all, cut, boundary), front, rest) =
    let within : n ≤ length bs = omega arith in
    let ends : true ≡ _ = ends_text true end bs (n, (all, cut, boundary), within, subst (λ k. IsCharBoundary bs (length bs - k)) (sym all) boundary) in
    ap Some (front ∙ ap (λ k. take (length bs - k) bs) all) ∙ ap (λ b. cond b (Some (take (length bs - length end) bs)) None) ends
