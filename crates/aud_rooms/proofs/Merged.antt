-- Two ascending lists of positions as one, and one without those of the other.
use Rattle.std.proofs.Common.{◌≡◌, ◌<◌, ◌||◌, ◌&&◌, ℕ, zero, suc, Bool, not, List, [], ◌∷◌, ◌++◌, filter, length, take, drop, None, position, nat_le, refl, ap, ◌∙◌, arith, length-take}
use Rattle.std.proofs.lemmas.Bool.Decides.{nat_tests}
use Rattle.std.proofs.lemmas.List.Folds.{length-prefix_len}
use Rattle.aud_node.specs.Lists.{numbers_from}
use Rattle.aud_rooms.specs.Private.Merge.{count_below, without_first}

-- the numbers of both lists, ascending, each once
abbrev pub merge : List ℕ → List ℕ → List ℕ
merge [] ms = ms
merge (n ∷ ns) ms = take (count_below n ms) ms ++ n ∷ merge ns (without_first n (drop (count_below n ms) ms))

-- the numbers of the second list that aren't in the first, ascending
abbrev pub remove : List ℕ → List ℕ → List ℕ
remove [] ms = ms
remove (n ∷ ns) ms = take (count_below n ms) ms ++ remove ns (without_first n (drop (count_below n ms) ms))

-- where no number is found that isn't below this one, all come before it
pub none_below : (n : ℕ) (ms : List ℕ) → None ≡ position (λ m. nat_le n m) ms → length ms ≡ count_below n ms
none_below n ms none = grind (arith, nat_tests, length-prefix_len (λ m. not (nat_le n m)) ms, length-take (count_below n ms) ms, none)

-- later numbers have none below a number, and don't begin with it
later_alone : (q : ℕ → Bool) (n first count : ℕ) → n < first
    → (count_below n (filter q (numbers_from first count)) ≡ 0) × (without_first n (filter q (numbers_from first count)) ≡ filter q (numbers_from first count))
later_alone q n first zero h = (refl, refl)
later_alone q n first (suc count) h = grind (arith, nat_tests, later_alone q n (suc first) count)

-- a number before the first one of a list comes first
before_head : (n m : ℕ) (ns ms : List ℕ) → n < m → merge (m ∷ ns) (n ∷ ms) ≡ n ∷ merge (m ∷ ns) ms
before_head n m ns ms h =
    let more : count_below m (n ∷ ms) ≡ suc (count_below m ms) = grind (arith, nat_tests) in
    grind (arith, ap (λ k. take k (n ∷ ms)) more, ap (λ k. drop k (n ∷ ms)) more)

-- so does one before all numbers of a list
first_alone : (p : ℕ → Bool) (n first count : ℕ) (ms : List ℕ) → n < first → merge (filter p (numbers_from first count)) (n ∷ ms) ≡ n ∷ merge (filter p (numbers_from first count)) ms
first_alone p n first zero ms h = refl
first_alone p n first (suc count) ms h = grind (arith, before_head n first (filter p (numbers_from (suc first) count)) ms, first_alone p n (suc first) count ms)

-- the merge of the numbers that pass one test and those that pass another
merge-filter : (p q : ℕ → Bool) (first count : ℕ) → merge (filter p (numbers_from first count)) (filter q (numbers_from first count)) ≡ filter (λ n. p n || q n) (numbers_from first count)
merge-filter p q first zero = refl
merge-filter p q first (suc count) =
    grind (arith, nat_tests, merge-filter p q (suc first) count, later_alone q first (suc first) count, first_alone p first (suc first) count)

-- that as the clauses say it
pub merged_pass : (ns ms all : List ℕ) → all ≡ merge ns ms → (p q : ℕ → Bool) (first count : ℕ) → ns ≡ filter p (numbers_from first count) → ms ≡ filter q (numbers_from first count)
    → all ≡ filter (λ n. p n || q n) (numbers_from first count)
merged_pass ns ms all is p q first count one other =
    is ∙ ap (λ list. merge list ms) one ∙ ap (merge (filter p (numbers_from first count))) other ∙ merge-filter p q first count

-- a list and none
pub merge-none : (ns : List ℕ) → merge ns [] ≡ ns
merge-none [] = refl
merge-none (n ∷ ns) = ap (λ ms. n ∷ ms) (merge-none ns)

-- ---- without the numbers of a list

-- a number before the first one that is removed stays
head_stays : (n m : ℕ) (ns ms : List ℕ) → n < m → remove (m ∷ ns) (n ∷ ms) ≡ n ∷ remove (m ∷ ns) ms
head_stays n m ns ms h =
    let more : count_below m (n ∷ ms) ≡ suc (count_below m ms) = grind (arith, nat_tests) in
    grind (arith, ap (λ k. take k (n ∷ ms)) more, ap (λ k. drop k (n ∷ ms)) more)

-- so does one before all that are removed
first_stays : (q : ℕ → Bool) (n first count : ℕ) (ms : List ℕ) → n < first → remove (filter q (numbers_from first count)) (n ∷ ms) ≡ n ∷ remove (filter q (numbers_from first count)) ms
first_stays q n first zero ms h = refl
first_stays q n first (suc count) ms h = grind (arith, head_stays n first (filter q (numbers_from (suc first) count)) ms, first_stays q n (suc first) count ms)

-- the numbers that pass one test, without those that pass another
remove-filter : (q p : ℕ → Bool) (first count : ℕ) → remove (filter q (numbers_from first count)) (filter p (numbers_from first count)) ≡ filter (λ n. p n && not (q n)) (numbers_from first count)
remove-filter q p first zero = refl
remove-filter q p first (suc count) =
    grind (arith, nat_tests, remove-filter q p (suc first) count, later_alone p first (suc first) count, first_stays q first (suc first) count)

-- that as the clauses say it
pub removed_pass : (ns ms left : List ℕ) → left ≡ remove ms ns → (p q : ℕ → Bool) (first count : ℕ) → ns ≡ filter p (numbers_from first count) → ms ≡ filter q (numbers_from first count)
    → left ≡ filter (λ n. p n && not (q n)) (numbers_from first count)
removed_pass ns ms left is p q first count one other =
    is ∙ ap (remove ms) one ∙ ap (λ list. remove list (filter p (numbers_from first count))) other ∙ remove-filter q p first count
