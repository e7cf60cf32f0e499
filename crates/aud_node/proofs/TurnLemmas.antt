-- The turns that begin from a record on.
use Rattle.std.proofs.Common.{◌≡◌, ℕ, ◌+◌, ◌-◌, ◌<◌, ◌≤◌, suc, cond, List, [], ◌∷◌, length, take, drop, arith, Option, Some, None, option_map, IfSome, refl, slice_get, true}
use Rattle.std.proofs.lemmas.List.{length-drop}
use Rattle.std.proofs.lemmas.Option.{slice_get_within}
use Rattle.aud_tap.specs.declared.records.NodeRec.{NodeRec}
use Rattle.aud_base.proofs.Lists.{drop_at}
use Rattle.aud_node.specs.Lists.{first_index, between}
use Rattle.aud_node.specs.Stream.{Text}
use Rattle.aud_node.specs.TurnRecords.{begins_turn, begins_any_turn, ends_any_turn, rest_of_turn, turn_in, turn_records, turn_range}
use Rattle.aud_node.specs.Private.TurnIndex.{kept_range, kept_end, range_numbers, HoldsTurns}
use Rattle.aud_node.specs.declared.turns.Turns.{Turns}
use Rattle.aud_node.specs.declared.turns.TurnRange.{TurnRange}
use Rattle.aud_node.proofs.ListLemmas.{first_index-found}

-- ---- the loop that builds the index, from the last record on

-- the numbers of records that stand after so many others
abbrev after : ℕ → Option (ℕ × ℕ) → Option (ℕ × ℕ)
after i range = option_map (λ (r : ℕ × ℕ). (i + r.0, i + r.1)) range

-- the turns that begin with a record from this number on, and how far one goes on that began before
pub record HoldsFrom (log : List NodeRec) (i : ℕ) (turns : Turns) : Type 0 where
  pub spans_are : (pid : Text) (k : ℕ) → option_map range_numbers (kept_range turns pid k) ≡ after i (turn_range (drop i log) pid k)
  pub ends_are : (pid : Text) → kept_end turns pid (length log) ≡ i + length (rest_of_turn pid (drop i log))

-- one record more in front
turn_range-cons : (rec : NodeRec) (recs : List NodeRec) (pid : Text) (k : ℕ)
    → turn_range (rec ∷ recs) pid k ≡ cond (begins_turn pid k rec) (Some (0, suc (length (rest_of_turn pid recs)))) (after 1 (turn_range recs pid k))
turn_range-cons rec recs pid k = grind arith

-- numbers after one more record than so many
after-more : (i n : ℕ) (o : Option (ℕ × ℕ)) → n ≡ i + 1 → after n o ≡ after i (after 1 o)
after-more i n o next = grind arith

-- the loop's step: one record more in front
pub step : (log : List NodeRec) (len i n : ℕ) (rec : NodeRec) (old new : Turns) → len ≡ length log → n ≡ i + 1 → drop i log ≡ rec ∷ drop n log → HoldsFrom log n old
    → ((q : Text) (k : ℕ) → kept_range new q k ≡ cond (begins_turn q k rec) (Some (record { from = i; to = kept_end old q len })) (kept_range old q k))
    → ((q : Text) → kept_end new q len ≡ cond (begins_any_turn q rec) i (cond (ends_any_turn q rec) (i + 1) (kept_end old q len)))
    → HoldsFrom log i new
step log len i n rec old new all next front held spans ends =
    record {
      spans_are = λ pid k.
          grind (arith, all, spans pid k, front, turn_range-cons rec (drop n log) pid k, held.spans_are pid k, held.ends_are pid, after-more i n (turn_range (drop n log) pid k));
      ends_are = λ pid. grind (arith, all, ends pid, front, held.ends_are pid);
    }

-- from the first record on
pub HoldsFrom-first : (log : List NodeRec) (turns : Turns) → HoldsFrom log 0 turns → HoldsTurns log turns
HoldsFrom-first log turns held pid k = grind (arith, held.spans_are pid k)

-- ---- the records with these numbers

-- the rest of a turn is the front of what follows
pub rest-taken : (pid : Text) (log : List NodeRec) → take (length (rest_of_turn pid log)) log ≡ rest_of_turn pid log
rest-taken pid [] = refl
rest-taken pid (rec ∷ recs) = grind (arith, rest-taken pid recs)

-- a turn's records are those with its numbers
numbers-taken : (pid : Text) (log : List NodeRec) (from : ℕ) → between log from (from + length (turn_in pid (drop from log))) ≡ turn_in pid (drop from log)
numbers-taken pid log from =
    let count : from + length (turn_in pid (drop from log)) - from ≡ length (turn_in pid (drop from log)) = omega arith in
    grind (arith, count, rest-taken pid)

-- the records that are kept for a turn are the turn's
pub turn_of-kept : (log : List NodeRec) (turns : Turns) (pid : Text) (k : ℕ) → HoldsTurns log turns
    → option_map (λ (span : TurnRange). between log span.from span.to) (kept_range turns pid k) ≡ turn_records log pid k
turn_of-kept log turns pid k held = grind (arith, held pid k, numbers-taken pid log)

-- the rest of a turn has no more records than the log
length-rest : (pid : Text) (log : List NodeRec) → length (rest_of_turn pid log) ≤ length log
length-rest pid [] = omega arith
length-rest pid (rec ∷ recs) = grind (arith, length-rest pid recs)

-- a turn has a record, and its records are of the log
abbrev pub IsWithin : ℕ → Option (ℕ × ℕ) → Type 0
IsWithin len range = IfSome range (λ (r : ℕ × ℕ). (r.0 < r.1) × (r.1 ≤ len))

-- a turn that begins in a log has a record, and ends within the log
pub turn_range-within : (log : List NodeRec) (pid : Text) (k : ℕ) → IsWithin (length log) (turn_range log pid k)
turn_range-within log pid k = go (first_index (begins_turn pid k) log) (first_index-found (begins_turn pid k) log)
  where
    go : (o : Option ℕ) → ((i : ℕ) → o ≡ Some i → (x : NodeRec) × (slice_get log i ≡ Some x) × (begins_turn pid k x ≡ true))
        → IsWithin (length log) (option_map (λ from. (from, from + length (turn_in pid (drop from log)))) o)
    go None found = tt
    go (Some from) found =
        let (first, there, _) = found from refl in
        grind (arith, drop_at log from first there, length-rest pid (drop (suc from) log), length-drop (suc from) log, slice_get_within log from first there)
