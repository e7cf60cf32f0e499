-- A line more in the history and in a tap's list.
use Rattle.std.proofs.Common.{◌≡◌, ◌≢◌, ℕ, zero, suc, ◌+◌, ◌<◌, Bool, List, [], ◌∷◌, ◌++◌, length, get_or, set, take, map, true, false, sym, refl, ap, ◌∙◌, subst, arith, eq-eqb, ne_eqb}
use Rattle.std.specs.Prelude.{if◌then◌else◌, ◌==◌}
use Rattle.std.specs.Borrow.{Bor}
use mathlib.Core.Logic.{dite}
use mathlib.Core.List.{map-append}
use Rattle.std.proofs.lemmas.List.{take_more}
use native.Mathlib.Decide.{ℕ_discrete}
use Rattle.aud_book.specs.declared.book.TapLines.{TapLines}
use Rattle.aud_book.specs.History.{IsMergingOf, lines_at, project, texts, pairs}
use Rattle.aud_book.specs.Taps.{seen_taps, names_of, unposted}

abbrev Line : Type 0
Line = Bor (List ℕ)

-- a tap that is put in another's place has its lines there
pub at-same : (ts : List TapLines) (i : ℕ) (t : TapLines) → i < length ts → lines_at (seen_taps (set ts i t)) i ≡ texts t.lines.items
at-same [] i t h = absurd (omega arith)
at-same (u ∷ us) zero t h = refl
at-same (u ∷ us) (suc i) t h = at-same us i t (omega arith)

-- elsewhere the lines are as they were
pub at-other : (ts : List TapLines) (i k : ℕ) (t : TapLines) → k ≢ i → lines_at (seen_taps (set ts i t)) k ≡ lines_at (seen_taps ts) k
at-other [] i k t h = refl
at-other (u ∷ us) zero zero t h = absurd (h refl)
at-other (u ∷ us) zero (suc k) t h = refl
at-other (u ∷ us) (suc i) zero t h = refl
at-other (u ∷ us) (suc i) (suc k) t h = at-other us i k t (λ e. h (ap suc e))

-- the lines at a place are those of the tap there
pub at-get : (ts : List TapLines) (i : ℕ) (d : TapLines) → i < length ts → lines_at (seen_taps ts) i ≡ texts (get_or ts i d).lines.items
at-get [] i d h = absurd (omega arith)
at-get (u ∷ us) zero d h = refl
at-get (u ∷ us) (suc i) d h = at-get us i d (omega arith)

-- a list with the same lines in its place changes nothing
pub at-kept : (ts : List TapLines) (i k : ℕ) (t : TapLines) → i < length ts → lines_at (seen_taps ts) i ≡ texts t.lines.items → lines_at (seen_taps (set ts i t)) k ≡ lines_at (seen_taps ts) k
at-kept ts i k t h is = dite (ℕ_discrete k i)
    (λ (e : k ≡ i). subst (λ j. lines_at (seen_taps (set ts i t)) j ≡ lines_at (seen_taps ts) j) (sym e) (at-same ts i t h ∙ sym is))
    (λ ne. at-other ts i k t ne)

-- a tap of the same name in another's place leaves the names
pub names-set : (ts : List TapLines) (i : ℕ) (t d : TapLines) → i < length ts → t.name.now ≡ (get_or ts i d).name.now → names_of (set ts i t) ≡ names_of ts
names-set [] i t d h is = refl
names-set (u ∷ us) zero t d h is = ap (λ n. n ∷ names_of us) is
names-set (u ∷ us) (suc i) t d h is = ap (λ ns. u.name.now ∷ ns) (names-set us i t d (omega arith) is)

-- a test before both sides
both_ways : (b : Bool) (x : List ℕ) (ps ps' : List (List ℕ)) (l : List ℕ) → ps' ≡ ps ++ l ∷ [] → (if b then x ∷ ps' else ps') ≡ (if b then x ∷ ps else ps) ++ l ∷ []
both_ways true x ps ps' l e = ap (λ ls. x ∷ ls) e
both_ways false x ps ps' l e = e

-- a pair more of a tap is a line more of its projection
project-push-same : (t : ℕ) (ps : List (ℕ × List ℕ)) (l : List ℕ) → project t (ps ++ (t, l) ∷ []) ≡ project t ps ++ l ∷ []
project-push-same t [] l = rw (eq-eqb t t refl) refl
project-push-same t (p ∷ ps) l = both_ways (p.0 == t) p.1 (project t ps) _ l (project-push-same t ps l)

-- it leaves the projections on other taps
project-push-other : (t k : ℕ) (ps : List (ℕ × List ℕ)) (l : List ℕ) → t ≢ k → project k (ps ++ (t, l) ∷ []) ≡ project k ps
project-push-other t k [] l ne = rw (ne_eqb t k ne) refl
project-push-other t k (p ∷ ps) l ne = ap (λ ls. if p.0 == k then p.1 ∷ ls else ls) (project-push-other t k ps l ne)

-- the line goes to the end of the tap's list and of the history
pub appended : (ts : List TapLines) (i : ℕ) (old new : TapLines) (line : Line) (ps ps' : List (ℕ × Line)) → i < length ts → lines_at (seen_taps ts) i ≡ texts old.lines.items
    → new.lines.items ≡ old.lines.items ++ line ∷ [] → ps' ≡ ps ++ (i, line) ∷ [] → IsMergingOf (seen_taps ts) (pairs ps) → IsMergingOf (seen_taps (set ts i new)) (pairs ps')
appended ts i old new line ps ps' h at is more kept t =
    let all : pairs ps' ≡ pairs ps ++ (i, line.now) ∷ [] = ap pairs more ∙ map-append (λ (p : ℕ × Line). (p.0, p.1.now)) ps ((i, line) ∷ []) in
    let mine : texts new.lines.items ≡ texts old.lines.items ++ line.now ∷ [] = ap texts is ∙ map-append (λ (l : Line). l.now) old.lines.items (line ∷ []) in
    dite (ℕ_discrete i t)
    (λ (e : i ≡ t). subst (λ k. lines_at (seen_taps (set ts i new)) k ≡ project k (pairs ps')) e
    (at-same ts i new h ∙ mine ∙ ap (λ ls. ls ++ line.now ∷ []) (sym at ∙ kept i) ∙ sym (ap (project i) all ∙ project-push-same i (pairs ps) line.now)))
    (λ ne. at-other ts i t new (λ e. ne (sym e)) ∙ kept t ∙ sym (ap (project t) all ∙ project-push-other i t (pairs ps) line.now ne))

-- taps with no line are merged by a history with none
pub empty-merging : (names : List Line) → IsMergingOf (map unposted names) []
empty-merging [] t = refl
empty-merging (n ∷ ns) zero = refl
empty-merging (n ∷ ns) (suc t) = empty-merging ns t

-- one element more of two lists that look the same
pub both-more : {A B C : Type 0} (f : A → C) (g : B → C) (xs : List A) (ys : List B) (i : ℕ) (d : A) (e : B) → i < length xs → i < length ys → f (get_or xs i d) ≡ g (get_or ys i e)
    → map f (take i xs) ≡ map g (take i ys) → map f (take (i + 1) xs) ≡ map g (take (i + 1) ys)
both-more f g xs ys i d e h h' is front =
    ap (map f) (take_more xs i d h) ∙ map-append f (take i xs) (get_or xs i d ∷ []) ∙ ap (λ zs. zs ++ f (get_or xs i d) ∷ []) front ∙ ap (λ z. map g (take i ys) ++ z ∷ []) is
    ∙ sym (map-append g (take i ys) (get_or ys i e ∷ [])) ∙ sym (ap (map g) (take_more ys i e h'))
