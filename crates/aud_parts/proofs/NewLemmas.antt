-- Where no pid stands twice, a pid is of one part; so the pids of a part's sessions tell the part.
use Rattle.std.proofs.Common.{◌≡◌, ℕ, zero, suc, ◌+◌, ◌<◌, ◌≤◌, ◌==◌, ◌&&◌, ◌||◌, not, List, [], ◌∷◌, ◌++◌, length, map, Bool, true, false, cond, Some, refl, sym, ap, ◌∙◌, arith, inl, inr, bytes_eq, nat_le}
use Rattle.std.specs.List.{filter, list_any, list_all, position_from}
use Rattle.std.specs.Cmp.Lexicographic.{pointwise}
use Rattle.std.proofs.lemmas.Bool.{cases_Bool, cases_eq, and_parts, or_left, or_cases, eqb-true, not-true, false≢true, true≢false}
use Rattle.std.proofs.lemmas.List.Folds.{list_any-append}
use Rattle.aud_base.specs.Lists.{numbers_from}
use Rattle.aud_base.proofs.SameText.{same_text, itself_text}
use Rattle.aud_node.specs.Lists.{is_empty}
use Rattle.aud_node.specs.Stream.{Text}
use Rattle.aud_parts.specs.declared.listing.Listing.{Listing}
use Rattle.aud_parts.specs.declared.listing.ListedSession.{ListedSession}
use Rattle.aud_parts.specs.Listing.{is_of_part, pids_of_part, pids_by_part, are_new, is_full}
use Rattle.aud_parts.specs.Merged.{part_of}

-- the pid stands among these
abbrev stands : Text → List Text → Bool
stands pid pids = list_any (bytes_eq pid) pids

-- all pids of the sessions
abbrev all_pids : List ListedSession → List Text
all_pids sessions = map (λ (s : ListedSession). s.pid) sessions

-- a pid that stands before isn't of a later session
new-apart : (before : List Text) (sessions : List ListedSession) (pid : Text) → are_new before sessions ≡ true → stands pid before ≡ true → stands pid (all_pids sessions) ≡ false
new-apart before [] pid new there = refl
new-apart before (s ∷ sessions) pid new there =
    let parts = and_parts (not (stands s.pid before)) (are_new (before ++ s.pid ∷ []) sessions) new in
    let rest = new-apart (before ++ s.pid ∷ []) sessions pid parts.1 (list_any-append (bytes_eq pid) before (s.pid ∷ []) ∙ or_left _ _ there) in
    go (bytes_eq pid s.pid) refl parts.0 rest
  where
    go : (b : Bool) → bytes_eq pid s.pid ≡ b → not (stands s.pid before) ≡ true → stands pid (all_pids sessions) ≡ false → (b || stands pid (all_pids sessions)) ≡ false
    go true same none rest =
        absurd (true≢false (sym there ∙ ap (λ p. stands p before) (same_text pid s.pid same) ∙ not-true (stands s.pid before) none))
    go false other none rest = rest

-- a pid of a part is one of all
part-stands : (sessions : List ListedSession) (pid : Text) (part : ℕ) → stands pid (all_pids sessions) ≡ false → stands pid (pids_of_part sessions part) ≡ false
part-stands [] pid part none = refl
part-stands (s ∷ sessions) pid part none = go (is_of_part part s) (bytes_eq pid s.pid) none (part-stands sessions pid part) refl
  where
    go : (b t : Bool) → (t || stands pid (all_pids sessions)) ≡ false → (stands pid (all_pids sessions) ≡ false → stands pid (pids_of_part sessions part) ≡ false)
        → bytes_eq pid s.pid ≡ t → stands pid (map (λ (u : ListedSession). u.pid) (cond b (s ∷ filter (is_of_part part) sessions) (filter (is_of_part part) sessions))) ≡ false
    go true true e ih is = cc
    go true false e ih is = ap (λ t. t || stands pid (pids_of_part sessions part)) is ∙ ih e
    go false true e ih is = cc
    go false false e ih is = ih e

-- where the first session has the pid and no later one, it is of the part
first-part : (s : ListedSession) (sessions : List ListedSession) (pid : Text) (part : ℕ) → stands pid (all_pids sessions) ≡ false
    → stands pid (pids_of_part (s ∷ sessions) part) ≡ true → s.part ≡ part
first-part s sessions pid part none there = go (is_of_part part s) refl there
  where
    go : (b : Bool) → is_of_part part s ≡ b → stands pid (map (λ (u : ListedSession). u.pid) (cond b (s ∷ filter (is_of_part part) sessions) (filter (is_of_part part) sessions))) ≡ true → s.part ≡ part
    go true is at = eqb-true s.part part is
    go false is at = absurd (false≢true (sym (part-stands sessions pid part none) ∙ at))

-- where it hasn't, a later one of the part has it
later-part : (s : ListedSession) (sessions : List ListedSession) (pid : Text) (part : ℕ) → bytes_eq pid s.pid ≡ false
    → stands pid (pids_of_part (s ∷ sessions) part) ≡ true → stands pid (pids_of_part sessions part) ≡ true
later-part s sessions pid part other there = go (is_of_part part s) there
  where
    go : (b : Bool) → stands pid (map (λ (u : ListedSession). u.pid) (cond b (s ∷ filter (is_of_part part) sessions) (filter (is_of_part part) sessions))) ≡ true → stands pid (pids_of_part sessions part) ≡ true
    go true at = sym (ap (λ b. b || stands pid (pids_of_part sessions part)) other) ∙ at
    go false at = at

-- a pid is of one part
pub one-part : (before : List Text) (sessions : List ListedSession) (pid : Text) (one other : ℕ) → are_new before sessions ≡ true
    → stands pid (pids_of_part sessions one) ≡ true → stands pid (pids_of_part sessions other) ≡ true → one ≡ other
one-part before [] pid one other new there too = absurd (false≢true there)
one-part before (s ∷ sessions) pid one other new there too =
    let parts = and_parts (not (stands s.pid before)) (are_new (before ++ s.pid ∷ []) sessions) new in
    elim (cases_Bool (bytes_eq pid s.pid)) [
      | inl same ↦
          let noted : stands pid (before ++ s.pid ∷ []) ≡ true = list_any-append (bytes_eq pid) before (s.pid ∷ []) ∙ last (stands pid before) (bytes_eq pid s.pid) same in
          let none = new-apart (before ++ s.pid ∷ []) sessions pid parts.1 noted in
          sym (first-part s sessions pid one none there) ∙ first-part s sessions pid other none too
      | inr differs ↦ one-part (before ++ s.pid ∷ []) sessions pid one other parts.1 (later-part s sessions pid one differs there) (later-part s sessions pid other differs too)
    ]
  where
    last : (a b : Bool) → b ≡ true → (a || (b || false)) ≡ true
    last true b e = refl
    last false true e = refl
    last false false e = e

-- ---- the part of the pids

-- lists of texts that are the same
pub same-texts : (own pids : List Text) → pointwise bytes_eq own pids ≡ true → own ≡ pids
same-texts [] [] e = refl
same-texts [] (p ∷ pids) e = cc
same-texts (o ∷ own) [] e = cc
same-texts (o ∷ own) (p ∷ pids) e =
    let parts = and_parts (bytes_eq o p) (pointwise bytes_eq own pids) e in
    λ i. same_text o p parts.0 i ∷ same-texts own pids parts.1 i

pub itself-texts : (pids : List Text) → pointwise bytes_eq pids pids ≡ true
itself-texts [] = refl
itself-texts (p ∷ pids) = rw (itself_text p, itself-texts pids) refl

-- the first of some pids stands among them
first-stands : (pids : List Text) → is_empty pids ≡ false → (pid : Text) × (stands pid pids ≡ true)
first-stands [] e = cc
first-stands (p ∷ pids) e = (p, ap (λ b. b || stands p pids) (itself_text p))

-- the first of the numbers that passes
position-numbers : {X : Type 0} (p : X → Bool) (f : ℕ → X) (first count k : ℕ) → k < count → p (f (first + k)) ≡ true
    → ((j : ℕ) → first ≤ j → j < first + k → p (f j) ≡ false) → position_from p first (map f (numbers_from first count)) ≡ Some (first + k)
position-numbers p f first zero k within passes before = absurd (omega arith)
position-numbers p f first (suc count) zero within passes before =
    let e : first + 0 ≡ first = omega arith in
    rw (ap (λ n. p (f n)) (sym e) ∙ passes) (ap Some (sym e))
position-numbers p f first (suc count) (suc k) within passes before =
    let e : suc first + k ≡ first + suc k = omega arith in
    let next : first + 1 ≡ suc first = omega arith in
    rw (before first (omega arith) (omega arith), next)
    (position-numbers p f (suc first) count k (omega arith) (ap (λ n. p (f n)) e ∙ passes) (λ j low high. before j (omega arith) (omega arith)) ∙ ap Some e)

-- each part has a session
pub full-parts : (l : Listing) (k : ℕ) → is_full l ≡ true → 0 < k → k < l.parts → is_empty (pids_of_part l.sessions k) ≡ false
full-parts l k full some within =
    elim (or_cases (l.parts == 1 && is_empty l.sessions) (nat_le l.parts (length l.sessions) && list_all (λ (pids : List Text). not (is_empty pids)) (pids_by_part l)) full) [
      | inl one ↦
          let e : l.parts ≡ 1 = eqb-true l.parts 1 (and_parts (l.parts == 1) (is_empty l.sessions) one).0 in absurd (omega arith)
      | inr all ↦ not-true (is_empty (pids_of_part l.sessions k)) (go 0 l.parts k (and_parts (nat_le l.parts (length l.sessions)) _ all).1 (omega arith) (omega arith))
    ]
  where
    go : (first count n : ℕ) → list_all (λ (pids : List Text). not (is_empty pids)) (map (pids_of_part l.sessions) (numbers_from first count)) ≡ true
        → first ≤ n → n < first + count → not (is_empty (pids_of_part l.sessions n)) ≡ true
    go first zero n all low high = absurd (omega arith)
    go first (suc count) n all low high =
        let parts = and_parts (not (is_empty (pids_of_part l.sessions first))) (list_all (λ (pids : List Text). not (is_empty pids)) (map (pids_of_part l.sessions) (numbers_from (suc first) count))) all in
        elim (cases_eq first n) [
          | inl is ↦ ap (λ m. not (is_empty (pids_of_part l.sessions m))) (sym is) ∙ parts.0
          | inr other ↦ go (suc first) count n parts.1 (omega arith) (omega arith)
        ]

-- the pids of a part's sessions tell that part
pub own-part : (l : Listing) (k : ℕ) → are_new [] l.sessions ≡ true → is_full l ≡ true → k < l.parts → part_of (pids_by_part l) (pids_of_part l.sessions k) ≡ Some k
own-part l k new full within =
    let e : 0 + k ≡ k = omega arith in
    position-numbers (λ own. pointwise bytes_eq own (pids_of_part l.sessions k)) (pids_of_part l.sessions) 0 l.parts k within
    (ap (λ n. pointwise bytes_eq (pids_of_part l.sessions n) (pids_of_part l.sessions k)) e ∙ itself-texts (pids_of_part l.sessions k))
    (λ j low high. differ j (omega arith) (pointwise bytes_eq (pids_of_part l.sessions j) (pids_of_part l.sessions k)) refl)
    ∙ ap Some e
  where
    differ : (j : ℕ) → j < k → (b : Bool) → pointwise bytes_eq (pids_of_part l.sessions j) (pids_of_part l.sessions k) ≡ b → b ≡ false
    differ j below false is = refl
    differ j below true is =
        let same = same-texts (pids_of_part l.sessions j) (pids_of_part l.sessions k) is in
        let (pid, there) = first-stands (pids_of_part l.sessions k) (full-parts l k full (omega arith) within) in
        let one = one-part [] l.sessions pid j k new (ap (stands pid) same ∙ there) there in
        absurd (omega arith)
