-- The marks of a session are among its own records.
use Rattle.std.proofs.Common.{◌≡◌, ℕ, zero, suc, Bool, false, List, [], ◌∷◌, ◌++◌, filter, length, drop, ◌≤◌, Option, Some, None, option_map, slice_get, refl, sym, ap, ◌∙◌, arith}
use Rattle.std.specs.List.{filter_map, flat_map, list_any}
use Rattle.std.proofs.lemmas.Option.{same_Some, none-some}
use Rattle.aud_tap.specs.declared.records.NodeRec.{NodeRec}
use Rattle.aud_node.specs.Cluster.{Cluster, node_log}
use Rattle.aud_node.specs.Lists.{numbers_from}
use Rattle.aud_node.specs.OwnPlaces.{has_own, own_places}
use Rattle.aud_node.specs.OwnRecords.{record_names, own_numbers}
use Rattle.aud_node.specs.Stream.{Text}
use Rattle.aud_session_facts.specs.declared.marks.TurnMark.{TurnMark}
use Rattle.aud_session_facts.specs.Marks.{mark_of, mark_at, marks_on, turn_marks}

-- what is made of the numbers that pass is what is made of all, where nothing is made of the others
filter_map-filter : (f : ℕ → Option TurnMark) (p : ℕ → Bool) (xs : List ℕ) → ((x : ℕ) → p x ≡ false → f x ≡ None) → filter_map f (filter p xs) ≡ filter_map f xs
filter_map-filter f p [] none = refl
filter_map-filter f p (x ∷ xs) none = grind (arith, filter_map-filter f p xs none, none x)

flat_map-filter : (f : ℕ → List TurnMark) (p : ℕ → Bool) (xs : List ℕ) → ((x : ℕ) → p x ≡ false → f x ≡ []) → flat_map f (filter p xs) ≡ flat_map f xs
flat_map-filter f p [] none = refl
flat_map-filter f p (x ∷ xs) none = grind (arith, flat_map-filter f p xs none, none x)

-- nothing is made of numbers of which none gives something
filter_map-none : (f : ℕ → Option TurnMark) (xs : List ℕ) → ((x : ℕ) → f x ≡ None) → filter_map f xs ≡ []
filter_map-none f [] none = refl
filter_map-none f (x ∷ xs) none = grind (arith, filter_map-none f xs none, none x)

-- where none passes, each fails
none-passes : (p : NodeRec → Bool) (xs : List NodeRec) → list_any p xs ≡ false → (n : ℕ) (x : NodeRec) → slice_get xs n ≡ Some x → p x ≡ false
none-passes p [] e n x at = absurd (none-some x at)
none-passes p (y ∷ ys) e zero x at = grind (arith, e, same_Some y x at)
none-passes p (y ∷ ys) e (suc n) x at = grind (arith, e, none-passes p ys, at)

-- a record that doesn't name the session is no mark of it
unmarked : (pid : Text) (o : Option NodeRec) → record_names o pid ≡ false → mark_of pid o ≡ None
unmarked pid o e = grind (arith, e)

unmarked-at : (c : Cluster) (pid : Text) (node number : ℕ) → record_names (slice_get (node_log c node) number) pid ≡ false → mark_at c pid node number ≡ None
unmarked-at c pid node number e = ap (option_map (λ mark. let m : TurnMark = record { place = record { node = node; number = number }; mark = mark } in m)) (unmarked pid (slice_get (node_log c node) number) e)

-- the marks on a node are those of the session's records there
pub own-marks : (c : Cluster) (pid : Text) (node : ℕ) → filter_map (mark_at c pid node) (own_numbers (node_log c node) pid) ≡ marks_on c pid node
own-marks c pid node = filter_map-filter (mark_at c pid node) (λ number. record_names (slice_get (node_log c node) number) pid) (numbers_from 0 (length (node_log c node))) (unmarked-at c pid node)

-- a node without the session's records has none
unmarked-on : (c : Cluster) (pid : Text) (node : ℕ) → has_own c pid node ≡ false → marks_on c pid node ≡ []
unmarked-on c pid node e = filter_map-none (mark_at c pid node) (numbers_from 0 (length (node_log c node))) (λ number. unmarked-at c pid node number (none-there number (slice_get (node_log c node) number) refl))
  where
    none-there : (number : ℕ) (o : Option NodeRec) → slice_get (node_log c node) number ≡ o → record_names (slice_get (node_log c node) number) pid ≡ false
    none-there number None at = ap (λ o. record_names o pid) at
    none-there number (Some rec) at = ap (λ o. record_names o pid) at ∙ none-passes (λ r. record_names (Some r) pid) (node_log c node) e number rec at

-- the marks of all nodes are those of the session's nodes
pub own-nodes : (c : Cluster) (pid : Text) → flat_map (marks_on c pid) (own_places c pid) ≡ turn_marks c pid
own-nodes c pid = flat_map-filter (marks_on c pid) (has_own c pid) (numbers_from 0 (length c.taps)) (unmarked-on c pid)

-- ---- what the loops have added in the end

nil-after : (xs : List TurnMark) → xs ++ [] ≡ xs
nil-after [] = refl
nil-after (x ∷ xs) = ap (λ ys. x ∷ ys) (nil-after xs)

past-end : (xs : List ℕ) (i : ℕ) → length xs ≤ i → drop i xs ≡ []
past-end [] zero h = refl
past-end [] (suc i) h = refl
past-end (x ∷ xs) zero h = absurd (omega arith)
past-end (x ∷ xs) (suc i) h = past-end xs i (omega arith)

pub marks-added : (c : Cluster) (pid : Text) (node i : ℕ) (own : List ℕ) (now before : List TurnMark) → own ≡ own_numbers (node_log c node) pid → length own ≤ i
    → now ++ filter_map (mark_at c pid node) (drop i own) ≡ before ++ filter_map (mark_at c pid node) own → now ≡ before ++ marks_on c pid node
marks-added c pid node i own now before same h is =
    sym (nil-after now) ∙ ap (λ ns. now ++ filter_map (mark_at c pid node) ns) (sym (past-end own i h)) ∙ is ∙ ap (λ ns. before ++ filter_map (mark_at c pid node) ns) same ∙ ap (λ ms. before ++ ms) (own-marks c pid node)

pub all-added : (c : Cluster) (pid : Text) (i : ℕ) (nodes : List ℕ) (now : List TurnMark) → nodes ≡ own_places c pid → length nodes ≤ i
    → now ++ flat_map (marks_on c pid) (drop i nodes) ≡ flat_map (marks_on c pid) nodes → now ≡ turn_marks c pid
all-added c pid i nodes now same h is =
    sym (nil-after now) ∙ ap (λ ns. now ++ flat_map (marks_on c pid) ns) (sym (past-end nodes i h)) ∙ is ∙ ap (flat_map (marks_on c pid)) same ∙ own-nodes c pid
