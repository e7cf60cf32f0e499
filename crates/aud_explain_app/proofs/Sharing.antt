-- Sessions with the same fault at the same record.
use Rattle.std.proofs.Common.{◌≡◌, ◌<◌, ◌+◌, ◌++◌, ◌||◌, ℕ, zero, suc, Bool, true, false, not, cond, List, [], ◌∷◌, length, map, filter, flat_map, get_or, Option, Some, None, Bor, option_map, slice_get, refl, sym, ap, ◌∙◌, append-nil, arith}
use Rattle.std.specs.List.{AllZip, list_any}
use Rattle.std.specs.Option.{option_map_or}
use Rattle.std.proofs.lemmas.Grind.{flat_map-append}
use Rattle.std.proofs.lemmas.List.{length-map}
use Rattle.std.proofs.lemmas.Option.{slice_get-map, slice_get_read}
use Rattle.aud_base.specs.Places.{numbers_from, places_where}
use Rattle.aud_base.proofs.Numbers.{numbers_from-more}
use Rattle.aud_node.specs.Cluster.{Cluster, node_log}
use Rattle.aud_node.specs.Stream.{Text}
use Rattle.aud_findings.specs.Order.{AreInOrder, IsFirstOutOfOrder, is_record_in_order}
use Rattle.aud_findings.specs.Prepared.{IsOrderRead}
use Rattle.aud_findings.specs.ShowsOrder.{places_in}
use Rattle.aud_session_facts.specs.declared.place.RecordPlace.{RecordPlace}
use Rattle.aud_verdict.specs.declared.verdict.SessionVerdict.{SessionVerdict}
use Rattle.aud_explain_app.specs.Alike.{Telling, is_at, is_unordered, numbers_at, shared_records, told_at, told_by}

-- ---- the nodes that are out of order

or-true : (b : Bool) → (b || true) ≡ true
or-true true = refl
or-true false = refl

-- one of consecutive numbers passes
any_number : (p : ℕ → Bool) (first count k : ℕ) → k < count → p (first + k) ≡ true → list_any p (numbers_from first count) ≡ true
any_number p first zero k within passes = absurd (omega arith)
any_number p first (suc count) zero within passes =
    let e : first ≡ first + 0 = omega arith in ap (λ n. p n || list_any p (numbers_from (suc first) count)) e ∙ ap (λ b. b || list_any p (numbers_from (suc first) count)) passes
any_number p first (suc count) (suc k) within passes =
    let e : suc first + k ≡ first + suc k = omega arith in ap (λ b. p first || b) (any_number p (suc first) count k (omega arith) (ap p e ∙ passes)) ∙ or-true (p first)

-- none of them does
no_number : (p : ℕ → Bool) (first count : ℕ) → ((n : ℕ) → n < first + count → p n ≡ false) → list_any p (numbers_from first count) ≡ false
no_number p first zero fails = refl
no_number p first (suc count) fails =
    ap (λ b. b || list_any p (numbers_from (suc first) count)) (fails first (omega arith)) ∙ no_number p (suc first) count (λ n within. fails n (omega (arith, within)))

-- by what was read of a node's order it is known whether it is out of order
out_of_order : (c : Cluster) (node number : ℕ) → IsFirstOutOfOrder c.stream (node_log c node) number → is_unordered c node ≡ true
out_of_order c node number first =
    let e : 0 + number ≡ number = omega arith in
    any_number (λ n. not (is_record_in_order c.stream (node_log c node) n)) 0 (length (node_log c node)) number first.within
    (ap (λ n. not (is_record_in_order c.stream (node_log c node) n)) e ∙ ap not first.is_out)

in_order : (c : Cluster) (node : ℕ) → AreInOrder c.stream (node_log c node) → is_unordered c node ≡ false
in_order c node are = no_number (λ n. not (is_record_in_order c.stream (node_log c node) n)) 0 (length (node_log c node)) (λ n within. ap not (are n (omega (arith, within))))

-- the nodes of the first records out of order are those that are
pub nodes_unordered : (c : Cluster) (nodes : List ℕ) (firsts : List (Option ℕ)) → AllZip (IsOrderRead c) nodes firsts
    → map (λ (at : RecordPlace). at.node) (places_in nodes firsts) ≡ filter (is_unordered c) nodes
nodes_unordered c [] [] read = refl
nodes_unordered c [] (first ∷ firsts) read = absurd read
nodes_unordered c (node ∷ nodes) [] read = absurd read
nodes_unordered c (node ∷ nodes) (Some number ∷ firsts) read =
    ap (λ ns. node ∷ ns) (nodes_unordered c nodes firsts read.1)
    ∙ sym (ap (λ b. cond b (node ∷ filter (is_unordered c) nodes) (filter (is_unordered c) nodes)) (out_of_order c node number read.0))
nodes_unordered c (node ∷ nodes) (None ∷ firsts) read =
    nodes_unordered c nodes firsts read.1 ∙ sym (ap (λ b. cond b (node ∷ filter (is_unordered c) nodes) (filter (is_unordered c) nodes)) (in_order c node read.0))

-- ---- sessions by their numbers

-- what sessions are borrowed for
abbrev pub lent : List (Bor SessionVerdict) → List SessionVerdict
lent sessions = map (λ s. s.now) sessions

-- a test of a borrowed session
passes : (c : Cluster) (spot : Text) (o : Option (Bor SessionVerdict)) → option_map_or (λ s. is_at c spot s.now) o false ≡ option_map_or (is_at c spot) (option_map (λ s. s.now) o) false
passes c spot None = refl
passes c spot (Some s) = refl

-- the numbers of borrowed sessions that share a record
pub numbers_lent : (c : Cluster) (sessions : List (Bor SessionVerdict)) (spot : Text)
    → places_where (λ k. option_map_or (λ s. is_at c spot s.now) (slice_get sessions k) false) (length sessions) ≡ numbers_at c (lent sessions) spot
numbers_lent c sessions spot = λ i. places_where (λ k. at k i) (sym (length-map sessions (λ (s : Bor SessionVerdict). s.now)) i)
  where
    at : (k : ℕ) → option_map_or (λ s. is_at c spot s.now) (slice_get sessions k) false ≡ option_map_or (is_at c spot) (slice_get (lent sessions) k) false
    at k = passes c spot (slice_get sessions k) ∙ ap (λ o. option_map_or (is_at c spot) o false) (sym (slice_get-map (λ (s : Bor SessionVerdict). s.now) sessions k))

-- what is told of one more session
pub told_more : (c : Cluster) (sessions : List (Bor SessionVerdict)) (i : ℕ) (s : Bor SessionVerdict) (old new : List Telling) → i < length sessions → s ≡ get_or sessions i s
    → old ≡ flat_map (told_at c (lent sessions)) (numbers_from 0 i) → new ≡ old ++ told_by c (lent sessions) i s.now (shared_records c s.now)
    → new ≡ flat_map (told_at c (lent sessions)) (numbers_from 0 (i + 1))
told_more c sessions i s old new within is was more =
    let told = told_at c (lent sessions) in
    let there = slice_get-map (λ (b : Bor SessionVerdict). b.now) sessions i ∙ ap (option_map (λ (b : Bor SessionVerdict). b.now)) (slice_get_read sessions (length sessions) i s refl within is) in
    let own : told i ≡ told_by c (lent sessions) i s.now (shared_records c s.now) = ap (λ o. option_map_or (λ v. told_by c (lent sessions) i v (shared_records c v)) o []) there in
    more ∙ ap (λ ts. ts ++ told_by c (lent sessions) i s.now (shared_records c s.now)) was
    ∙ ap (λ ts. flat_map told (numbers_from 0 i) ++ ts) (sym own)
    ∙ sym (ap (flat_map told) (numbers_from-more i) ∙ flat_map-append told (numbers_from 0 i) (i ∷ []) ∙ ap (λ ts. flat_map told (numbers_from 0 i) ++ ts) (append-nil (told i)))

-- all of them
pub told_all : (c : Cluster) (sessions : List (Bor SessionVerdict)) (told : List Telling) → told ≡ flat_map (told_at c (lent sessions)) (numbers_from 0 (length sessions))
    → told ≡ flat_map (told_at c (lent sessions)) (numbers_from 0 (length (lent sessions)))
told_all c sessions told is = is ∙ ap (λ n. flat_map (told_at c (lent sessions)) (numbers_from 0 n)) (sym (length-map sessions (λ (s : Bor SessionVerdict). s.now)))
