-- Where the lines of each tap stand in the text of all.
use Rattle.std.proofs.Common.{◌≡◌, ◌<◌, ◌≤◌, ◌+◌, ◌-◌, ◌==◌, ◌||◌, ℕ, zero, suc, Bool, true, false, List, [], ◌∷◌, ◌++◌, length, map, take, drop, get_or, Some, slice_get, unwrap_or, refl, sym, ap, ◌∙◌, arith, true≢false, append_assoc, append-nil, length-append, length-drop}
use Rattle.std.specs.List.{AllByRecursion}
use Rattle.std.proofs.lemmas.Bool.{or_parts}
use Rattle.std.proofs.lemmas.Grind.{flat_map-append}
use Rattle.std.proofs.lemmas.List.{drop-drop, take_more, map-append, take_at, drop_at as drop_front}
use Rattle.std.proofs.lemmas.Option.{same_Some, none-some}
use Rattle.aud_base.specs.Lists.{between}
use Rattle.aud_base.proofs.Lists.{drop_at, element_at}
use Rattle.aud_tap.specs.declared.records.Rec.{Rec}
use Rattle.aud_tap.specs.declared.taps.Tap.{Tap}
use Rattle.aud_tap.specs.TapName.{is_tap_name}
use Rattle.aud_reader.specs.Lines.{has_newline}
use Rattle.aud_reader.specs.OwnLines.{recs_in, recs_of}
use Rattle.aud_writer.specs.Written.{line_text}
use Rattle.aud_writer.specs.WrittenBundle.{ended, line_texts, named, named_recs, recs_of_taps}
use Rattle.aud_writer.proofs.LinesBack.{record-line}
use Rattle.aud_parts.specs.declared.part.server_text.PlacedTap.{PlacedTap}
use Rattle.aud_parts.specs.ServerTexts.{TapText, tap_text}
use Rattle.aud_parts.specs.Private.PlacedTexts.{placed_text}

-- ---- lines that are ended

abbrev pub AreWhole : List (List ℕ) → Type 0
AreWhole lines = AllByRecursion (λ line. has_newline line ≡ false) lines

head-same : (x y : ℕ) (xs ys : List ℕ) → x ∷ xs ≡ y ∷ ys → x ≡ y
head-same x y xs ys e = ap (λ l. get_or l 0 0) e

tail-same : (x y : ℕ) (xs ys : List ℕ) → x ∷ xs ≡ y ∷ ys → xs ≡ ys
tail-same x y xs ys e = ap (drop 1) e

-- what stands after the first newline
rest-same : (a b c d : List ℕ) → has_newline a ≡ false → has_newline c ≡ false → a ++ 10 ∷ b ≡ c ++ 10 ∷ d → b ≡ d
rest-same [] b [] d u v e = tail-same 10 10 b d e
rest-same [] b (y ∷ c) d u v e =
    absurd (true≢false (ap (λ n. (n == 10) || has_newline c) (head-same 10 y b (c ++ 10 ∷ d) e) ∙ v))
rest-same (x ∷ a) b [] d u v e =
    absurd (true≢false (ap (λ n. (n == 10) || has_newline a) (sym (head-same x 10 (a ++ 10 ∷ b) d e)) ∙ u))
rest-same (x ∷ a) b (y ∷ c) d u v e =
    rest-same a b c d (or_parts (x == 10) (has_newline a) u).1 (or_parts (y == 10) (has_newline c) v).1 (tail-same x y (a ++ 10 ∷ b) (c ++ 10 ∷ d) e)

newline-there : (a b : List ℕ) → has_newline (a ++ 10 ∷ b) ≡ true
newline-there [] b = refl
newline-there (x ∷ a) b = ap (λ t. (x == 10) || t) (newline-there a b) ∙ or-true (x == 10)
  where
    or-true : (t : Bool) → (t || true) ≡ true
    or-true true = refl
    or-true false = refl

whole-at : (lines : List (List ℕ)) (i : ℕ) (line : List ℕ) → AreWhole lines → slice_get lines i ≡ Some line → has_newline line ≡ false
whole-at [] i line whole at = absurd (none-some line at)
whole-at (l ∷ ls) zero line whole at = ap has_newline (sym (same_Some l line at)) ∙ whole.0
whole-at (l ∷ ls) (suc i) line whole at = whole-at ls i line whole.1 at

-- the next of these lines
next-line : (lines : List (List ℕ)) (i : ℕ) (line rest : List ℕ) → slice_get lines i ≡ Some line
    → ended (drop i lines) ++ rest ≡ line ++ 10 ∷ (ended (drop (suc i) lines) ++ rest)
next-line lines i line rest at =
    ap (λ ls. ended ls ++ rest) (drop_at lines i line at)
    ∙ append_assoc (line ++ 10 ∷ []) (ended (drop (suc i) lines)) rest
    ∙ append_assoc line (10 ∷ []) (ended (drop (suc i) lines) ++ rest)

pub after-line : (lines : List (List ℕ)) (i : ℕ) (left front others rest : List ℕ) → AreWhole lines → i < length lines
    → left ≡ ended (drop i lines) ++ rest → left ≡ front ++ 10 ∷ others → has_newline front ≡ false
    → others ≡ ended (drop (i + 1) lines) ++ rest
after-line lines i left front others rest whole within stands cut unended =
    let (line, at) = element_at lines i within in
    let one : suc i ≡ i + 1 = omega arith in
    rest-same front others line (ended (drop (suc i) lines) ++ rest) unended (whole-at lines i line whole at) (sym cut ∙ stands ∙ next-line lines i line rest at)
    ∙ ap (λ k. ended (drop k lines) ++ rest) one

pub no-line : (lines : List (List ℕ)) (i : ℕ) (left rest : List ℕ) → i < length lines → left ≡ ended (drop i lines) ++ rest → has_newline left ≡ false → ⊥
no-line lines i left rest within stands none =
    let (line, at) = element_at lines i within in
    true≢false (sym (newline-there line (ended (drop (suc i) lines) ++ rest)) ∙ ap has_newline (sym (stands ∙ next-line lines i line rest at)) ∙ none)

pub all-lines : (lines : List (List ℕ)) (n : ℕ) (left rest : List ℕ) → length lines ≤ n → left ≡ ended (drop n lines) ++ rest → left ≡ rest
all-lines lines n left rest past stands = stands ∙ ap (λ ls. ended ls ++ rest) (drop-end lines n past)
  where
    drop-end : (xs : List (List ℕ)) (k : ℕ) → length xs ≤ k → drop k xs ≡ []
    drop-end [] zero h = refl
    drop-end [] (suc k) h = refl
    drop-end (x ∷ xs) zero h = absurd (omega (arith, h))
    drop-end (x ∷ xs) (suc k) h = drop-end xs k (omega (arith, h))

-- ---- the lines of taps

-- no line that is written has a newline
whole-named : (name : List ℕ) (recs : List Rec) → is_tap_name name ≡ true → AreWhole (line_texts (named name recs))
whole-named name [] form = tt
whole-named name (rec ∷ recs) form = (record-line name rec form, whole-named name recs form)

count-named : (name : List ℕ) (recs : List Rec) → length (line_texts (named name recs)) ≡ length recs
count-named name [] = refl
count-named name (rec ∷ recs) = ap suc (count-named name recs)

-- the text of a tap and those after it
text-cons : (tap : Tap) (taps : List Tap) → ended (line_texts (recs_of_taps (tap ∷ taps))) ≡ (tap_text tap).text ++ ended (line_texts (recs_of_taps taps))
text-cons tap taps =
    ap ended (map-append (λ (r : List ℕ × Rec). line_text r.0 r.1) (named_recs tap) (recs_of_taps taps))
    ∙ flat_map-append (λ (line : List ℕ). line ++ 10 ∷ []) (line_texts (named_recs tap)) (line_texts (recs_of_taps taps))

-- what a function leaves of some text, whose clause this is
abbrev pub Leaves : List ℕ → ℕ → List ℕ → Type 0
Leaves bytes count result =
    (lines : List (List ℕ)) (rest : List ℕ) → AreWhole lines → length lines ≡ count → bytes ≡ ended lines ++ rest → result ≡ rest

-- a tap's lines, cut off the text from a place on
pub record CutTap (text : List ℕ) (tap : Tap) (taps : List Tap) (from to : ℕ) : Type 0 where
  pub text_is : between text from to ≡ (tap_text tap).text
  pub rest : drop to text ≡ ended (line_texts (recs_of_taps taps))

pub cut-tap : (text : List ℕ) (tap : Tap) (taps : List Tap) (from count to : ℕ) (left records rest : List ℕ)
    → is_tap_name tap.name ≡ true → from ≤ length text → drop from text ≡ ended (line_texts (recs_of_taps (tap ∷ taps)))
    → left ≡ drop from text → Leaves left 1 records → count ≡ length (recs_in tap.records) → Leaves records count rest → to ≡ length text - length rest
    → CutTap text tap taps from to
cut-tap text tap taps from count to left records rest form within stands cut one counted others ends =
    let head = line_texts (named tap.name (recs_of tap)) in
    let lines = line_texts (named tap.name (recs_in tap.records)) in
    let more = ended (line_texts (recs_of_taps taps)) in
    let own = (tap_text tap).text in
    let header = unwrap_or (slice_get head 0) [] in
    let whole = whole-named tap.name (recs_of tap) form in
    let all : drop from text ≡ own ++ more = stands ∙ text-cons tap taps in
    let after_header : records ≡ ended lines ++ more =
    one (header ∷ []) (ended lines ++ more) (whole.0, tt) refl
    (cut ∙ all ∙ append_assoc (header ++ 10 ∷ []) (ended lines) more ∙ ap (λ ls. ls ++ (ended lines ++ more)) (sym (append-nil (header ++ 10 ∷ [])))) in
    let after_all : rest ≡ more = others lines more whole.1 (count-named tap.name (recs_in tap.records) ∙ sym counted) after_header in
    let sizes = sym (length-drop from text) ∙ ap length all ∙ length-append own more in
    let size : to ≡ from + length own = omega (arith, ends, ap length after_all, sizes, within) in
    let taken : to - from ≡ length own = omega (arith, size) in
    record {
      text_is = ap (take (to - from)) all ∙ take_at own more (to - from) (omega (arith, taken));
      rest = ap (λ k. drop k text) size ∙ sym (drop-drop (length own) from text) ∙ ap (drop (length own)) all ∙ drop_front own more (length own) refl;
    }

same-tap : (n m t u : List ℕ) → n ≡ m → t ≡ u → (λ (x y : List ℕ). let it : TapText = record { name = x; text = y } in it) n t ≡ (λ (x y : List ℕ). let it : TapText = record { name = x; text = y } in it) m u
same-tap n m t u e f = ap (λ x. let it : TapText = record { name = x; text = t } in it) e ∙ ap (λ y. let it : TapText = record { name = m; text = y } in it) f

-- the taps so far, with one more
pub placed-more : (text : List ℕ) (taps : List Tap) (i : ℕ) (tap : Tap) (old new : List PlacedTap) (one : PlacedTap) → i < length taps → tap ≡ get_or taps i tap
    → map (placed_text text) old ≡ map tap_text (take i taps) → new ≡ old ++ one ∷ [] → one.name ≡ tap.name → between text one.from one.to ≡ (tap_text tap).text
    → map (placed_text text) new ≡ map tap_text (take (i + 1) taps)
placed-more text taps i tap old new one within read before more named is =
    ap (map (placed_text text)) more ∙ map-append (placed_text text) old (one ∷ [])
    ∙ ap (λ ts. ts ++ placed_text text one ∷ []) before
    ∙ ap (λ t. map tap_text (take i taps) ++ t ∷ []) (same-tap one.name tap.name (between text one.from one.to) (tap_text tap).text named is)
    ∙ sym (map-append tap_text (take i taps) (tap ∷ []))
    ∙ ap (λ t. map tap_text (take i taps ++ t ∷ [])) read
    ∙ ap (map tap_text) (sym (take_more taps i tap within))
