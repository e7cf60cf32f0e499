-- The records of a turn that a log begins: where they stop, and what is among them.
use Rattle.std.proofs.Common.{◌≡◌, ◌<◌, ◌+◌, ◌-◌, ℕ, zero, suc, true, false, List, [], ◌∷◌, length, drop, Option, Some, None, option_map, slice_get, refl, sym, ap, subst, ◌∙◌, arith}
use Rattle.std.proofs.lemmas.Option.{same_Some, none-some}
use Rattle.aud_tap.specs.declared.records.NodeRec.{NodeRec}
use Rattle.aud_node.specs.Cluster.{Cluster, node_log}
use Rattle.aud_node.specs.Lists.{first_index}
use Rattle.aud_node.specs.Stream.{Text}
use Rattle.aud_node.specs.TurnRecords.{begins_turn, begins_any_turn, ends_any_turn, rest_of_turn, turn_in, turn_range}
use Rattle.aud_base.proofs.Lists.{drop_at, slice_get-drop}
use Rattle.aud_node.proofs.ListLemmas.{first_index-found}
use Rattle.aud_node.proofs.TurnLemmas.{IsWithin, turn_range-within}
use Rattle.aud_rooms.specs.Turns.{Turn}
use Rattle.aud_maker.specs.Begun.{placed_or, turn_begun}
use Rattle.aud_maker.proofs.BegunLemmas.{IsIndexed}

-- ---- where they are

-- the number after a turn's last record
range-end : (pid : Text) (log : List NodeRec) (f : ℕ) (first : NodeRec) → drop f log ≡ first ∷ drop (suc f) log → f + length (turn_in pid (drop f log)) ≡ suc (f + length (rest_of_turn pid (drop (suc f) log)))
range-end pid log f first parts = grind (arith, parts)

-- a turn's range begins with its first record, and has the rest of the turn after it
pub range-indexed : (log : List NodeRec) (pid : Text) (k from to : ℕ) → turn_range log pid k ≡ Some (from, to) → IsIndexed log pid k from to
range-indexed log pid k from to e = go (first_index (begins_turn pid k) log) refl
  where
    go : (o : Option ℕ) → first_index (begins_turn pid k) log ≡ o → IsIndexed log pid k from to
    go None none = absurd (none-some (from, to) (sym (ap (option_map (λ n. (n, n + length (turn_in pid (drop n log))))) none) ∙ e))
    go (Some f) found =
        let (first, there, begins) = first_index-found (begins_turn pid k) log f found in
        let parts = drop_at log f first there in
        let pair : (f, f + length (turn_in pid (drop f log))) ≡ (from, to) = same_Some (f, f + length (turn_in pid (drop f log))) (from, to) (sym (ap (option_map (λ n. (n, n + length (turn_in pid (drop n log))))) found) ∙ e) in
        let same : f ≡ from = ap (λ (p : ℕ × ℕ). p.0) pair in
        let end : f + length (turn_in pid (drop f log)) ≡ to = ap (λ (p : ℕ × ℕ). p.1) pair in
        subst (λ n. IsIndexed log pid k n to) same
        (record {
          first = first;
          there = there;
          parts = parts;
          begins = begins;
          within = (subst (IsWithin (length log)) e (turn_range-within log pid k)).1;
          to_is = sym end ∙ range-end pid log f first parts;
        })

-- the range of a turn that is found begun
pub begun-range : (c : Cluster) (pid : Text) (k : ℕ) (nodes : List ℕ) (t : Turn) → turn_begun c nodes pid k ≡ Some t → turn_range (node_log c t.node) pid k ≡ Some (t.from, t.to)
begun-range c pid k [] t e = absurd (none-some t e)
begun-range c pid k (node ∷ nodes) t e = go (turn_range (node_log c node) pid k) refl (begun-range c pid k nodes t)
  where
    go : (o : Option (ℕ × ℕ)) → turn_range (node_log c node) pid k ≡ o → (turn_begun c nodes pid k ≡ Some t → turn_range (node_log c t.node) pid k ≡ Some (t.from, t.to)) → turn_range (node_log c t.node) pid k ≡ Some (t.from, t.to)
    go None is later = later (sym (ap (placed_or (turn_begun c nodes pid k) node) is) ∙ e)
    go (Some r) is later =
        let same : record { node = node; from = r.0; to = r.1 } ≡ t = same_Some (record { node = node; from = r.0; to = r.1 }) t (sym (ap (placed_or (turn_begun c nodes pid k) node) is) ∙ e) in
        subst (λ (u : Turn). turn_range (node_log c u.node) pid k ≡ Some (u.from, u.to)) same is

-- ---- where they stop

-- what follows a rest of a turn that ends by no `break` and no `gone` begins a turn
rest-stops : (pid : Text) (prev : NodeRec) (recs : List NodeRec) (last next : NodeRec) → slice_get (prev ∷ recs) (length (rest_of_turn pid recs)) ≡ Some last → ends_any_turn pid last ≡ false
    → slice_get recs (length (rest_of_turn pid recs)) ≡ Some next → begins_any_turn pid next ≡ true
rest-stops pid prev [] last next at lasting there = absurd (none-some next there)
rest-stops pid prev (x ∷ xs) last next at lasting there = grind (arith, rest-stops pid x xs last next, at, there)

-- so of a turn
pub range-stops : (log : List NodeRec) (pid : Text) (k from to : ℕ) (last next : NodeRec) → turn_range log pid k ≡ Some (from, to) → slice_get log (to - 1) ≡ Some last → ends_any_turn pid last ≡ false
    → slice_get log to ≡ Some next → begins_any_turn pid next ≡ true
range-stops log pid k from to last next e at lasting there =
    let r = range-indexed log pid k from to e in
    let rest = rest_of_turn pid (drop (suc from) log) in
    let before : to - 1 ≡ from + length rest = omega (arith, r.to_is) in
    let past : to ≡ suc from + length rest = omega (arith, r.to_is) in
    rest-stops pid r.first (drop (suc from) log) last next
    (ap (λ recs. slice_get recs (length rest)) (sym r.parts) ∙ slice_get-drop from log (length rest) (to - 1) before ∙ at)
    lasting
    (slice_get-drop (suc from) log (length rest) to past ∙ there)

-- ---- what is among them

-- in the rest of a turn no record begins one
rest-plain : (pid : Text) (recs : List NodeRec) (i : ℕ) (rec : NodeRec) → i < length (rest_of_turn pid recs) → slice_get recs i ≡ Some rec → begins_any_turn pid rec ≡ false
rest-plain pid [] i rec h at = absurd (none-some rec at)
rest-plain pid (x ∷ xs) zero rec h at = grind (arith, same_Some x rec at)
rest-plain pid (x ∷ xs) (suc i) rec h at = grind (arith, rest-plain pid xs i rec, at)

-- a record that begins turn k begins one
pub begins-any : (pid : Text) (k : ℕ) (rec : NodeRec) → begins_turn pid k rec ≡ true → begins_any_turn pid rec ≡ true
begins-any pid k rec e = grind (arith, e)

-- after a turn's first record none of its records begins a turn
pub none-inside : (log : List NodeRec) (pid : Text) (k from to : ℕ) → IsIndexed log pid k from to → (i j : ℕ) (rec : NodeRec) → from < i → i < to → slice_get log i ≡ Some rec → begins_turn pid j rec ≡ true → ⊥
none-inside log pid k from to r i j rec after below at begins =
    let place : i ≡ suc from + (i - suc from) = omega (arith, after) in
    let within : i - suc from < length (rest_of_turn pid (drop (suc from) log)) = omega (arith, r.to_is, after, below) in
    let plain = rest-plain pid (drop (suc from) log) (i - suc from) rec within (slice_get-drop (suc from) log (i - suc from) i place ∙ at) in
    grind (arith, plain, begins-any pid j rec begins)
