-- The records of a session's turns: how one begins and ends, and where a record of the session stands.
use Rattle.std.proofs.Common.{◌≡◌, ◌<◌, ◌≤◌, ◌+◌, ◌-◌, ℕ, zero, suc, true, List, [], ◌∷◌, Option, Some, slice_get, refl, sym, ap, ◌∙◌, subst, ◌⊎◌, inl, inr, arith}
use Rattle.std.proofs.lemmas.Bool.Decides.{nat_tests}
use Rattle.std.proofs.lemmas.Bool.{cases_eq, false≢true, and_parts}
use Rattle.std.proofs.lemmas.Option.{same_Some, none-some}
use Rattle.aud_tap.specs.declared.records.NodeRec.{NodeRec}
use Rattle.aud_tap.specs.declared.records.NodeRec.TheVariants.{Opened, Back}
use Rattle.aud_node.specs.Cluster.{Cluster, node_log}
use Rattle.aud_node.specs.Lists.{between}
use Rattle.aud_node.specs.Stream.{Text}
use Rattle.aud_node.specs.TurnRecords.{pid_of, begins_turn}
pub use Rattle.aud_base.proofs.SameText.{same_text, itself_text}
use Rattle.aud_node.proofs.RecordLemmas.{slice_get-between}
use Rattle.aud_rooms.specs.Turns.{Who, Turn, beginning, Part, Inner, Last, Foreign, End, part_of, end_past, turn_end, IsTurn, AreTurns, StandsIn}

-- a record that begins a turn of the session names it
pub begins-names : (pid : Text) (k : ℕ) (rec : NodeRec) → begins_turn pid k rec ≡ true → pid_of rec ≡ Some pid
begins-names pid zero (Opened other sid nsp) e = ap Some (same_text other pid e)
begins-names pid (suc k) (Back other number) e = ap Some (same_text other pid (and_parts _ _ e).0)
begins-names pid k _ e = absurd (false≢true e)

-- the record that begins turn n begins no other
pub begins-same : (who : Who) (k n : ℕ) → begins_turn who.pid k (beginning who n) ≡ true → k ≡ n
begins-same who k n e = grind (arith, nat_tests)

-- the record that begins turn k begins it
pub beginning-begins : (who : Who) (k : ℕ) → begins_turn who.pid k (beginning who k) ≡ true
beginning-begins who k = grind (arith, nat_tests, itself_text who.pid)

-- a record that begins some turn is foreign to each turn after its first record
begins-foreign : (pid : Text) (n k : ℕ) (rec : NodeRec) → begins_turn pid n rec ≡ true → part_of pid k rec ≡ Foreign
begins-foreign pid n k rec e = grind arith

-- a record of a turn that ends is an inner one, or the last
pub end_parts : (part : Part) (recs : List NodeRec) (rest : Option End) (e : End) → end_past part recs rest ≡ Some e
    → ((part ≡ Inner) × (rest ≡ Some e)) ⊎ ((part ≡ Last e) × (recs ≡ []))
end_parts part recs rest e is = grind arith

-- among the records of a turn that ends there is none that is foreign to it
no_foreign : (pid : Text) (k : ℕ) (recs : List NodeRec) (e : End) (j : ℕ) (rec : NodeRec) → turn_end pid k recs ≡ Some e → slice_get recs j ≡ Some rec → part_of pid k rec ≡ Foreign → ⊥
no_foreign pid k [] e j rec ends at foreign = none-some rec at
no_foreign pid k (x ∷ xs) e zero rec ends at foreign = grind (arith, at, foreign)
no_foreign pid k (x ∷ xs) e (suc j) rec ends at foreign = grind (arith, no_foreign pid k xs e j rec, end_parts (part_of pid k x) xs (turn_end pid k xs) e ends)

-- after a turn's first record none of its records begins a turn
pub no_begin_inside : (c : Cluster) (who : Who) (k : ℕ) (t : Turn) (later : List Turn) → IsTurn c who k t later
    → (i n : ℕ) (rec : NodeRec) → t.from < i → i < t.to → slice_get (node_log c t.node) i ≡ Some rec → begins_turn who.pid n rec ≡ true → ⊥
no_begin_inside c who k t later turn i n rec after below at begins =
    no_foreign who.pid k (between (node_log c t.node) (suc t.from) t.to) turn.end (i - suc t.from) rec turn.ends
    (slice_get-between (node_log c t.node) (suc t.from) t.to i (i - suc t.from) (omega (arith, after)) below ∙ at)
    (begins-foreign who.pid n k rec begins)

-- where a record stands: turn j of these, from turn k on
pub record Stands (c : Cluster) (who : Who) (k : ℕ) (turns : List Turn) (node number : ℕ) : Type 0 where
  pub index : ℕ
  pub turn : Turn
  pub later : List Turn
  pub is_there : slice_get turns index ≡ Some turn
  pub is_turn : IsTurn c who (k + index) turn later
  pub same_node : turn.node ≡ node
  pub from_le : turn.from ≤ number
  pub below : number < turn.to

-- a record that stands in the turns stands in one of them, and that is a turn of the session
pub stands : (c : Cluster) (who : Who) (k : ℕ) (turns : List Turn) (node number : ℕ) → AreTurns c who k turns → StandsIn node number turns → Stands c who k turns node number
stands c who k [] node number are is = absurd is
stands c who k (t ∷ later) node number are (inl here) =
    let first : k ≡ k + 0 = omega arith in
    record { index = 0; turn = t; later = later; is_there = refl; is_turn = subst (λ n. IsTurn c who n t later) first are.0; same_node = here.0; from_le = here.1; below = here.2 }
stands c who k (t ∷ later) node number are (inr is) =
    let s = stands c who (suc k) later node number are.1 is in
    let next : suc k + s.index ≡ k + suc s.index = omega arith in
    record {
      index = suc s.index;
      turn = s.turn;
      later = s.later;
      is_there = s.is_there;
      is_turn = subst (λ n. IsTurn c who n s.turn s.later) next s.is_turn;
      same_node = s.same_node;
      from_le = s.from_le;
      below = s.below;
    }

-- each of the turns
pub turn_there : (c : Cluster) (who : Who) (k : ℕ) (turns : List Turn) (j : ℕ) (t : Turn) → AreTurns c who k turns → slice_get turns j ≡ Some t → (later : List Turn) × IsTurn c who (k + j) t later
turn_there c who k [] j t are at = absurd (none-some t at)
turn_there c who k (x ∷ later) zero t are at =
    let first : k ≡ k + 0 = omega arith in
    (later, subst (λ n. IsTurn c who n t later) first (subst (λ y. IsTurn c who k y later) (same_Some x t at) are.0))
turn_there c who k (x ∷ later) (suc j) t are at =
    let next : suc k + j ≡ k + suc j = omega arith in
    let (rest, is) = turn_there c who (suc k) later j t are.1 at in
    (rest, subst (λ n. IsTurn c who n t rest) next is)

-- a record that begins turn n stands in none but turn n, as its first record
pub begins_there : (c : Cluster) (who : Who) (turns : List Turn) (node number n : ℕ) (rec : NodeRec) → AreTurns c who 0 turns
    → slice_get (node_log c node) number ≡ Some rec → begins_turn who.pid n rec ≡ true → (s : Stands c who 0 turns node number) → (s.index ≡ n) × (number ≡ s.turn.from)
begins_there c who turns node number n rec are at begins s = go (cases_eq number s.turn.from)
  where
    at' : slice_get (node_log c s.turn.node) number ≡ Some rec
    at' = ap (λ m. slice_get (node_log c m) number) s.same_node ∙ at

    go : (number ≡ s.turn.from) ⊎ (number ≡ s.turn.from → ⊥) → (s.index ≡ n) × (number ≡ s.turn.from)
    go (inl e) =
        let is : rec ≡ beginning who (0 + s.index) = same_Some _ _ (sym at' ∙ ap (slice_get (node_log c s.turn.node)) e ∙ s.is_turn.begins) in
        let same : n ≡ 0 + s.index = begins-same who n (0 + s.index) (ap (begins_turn who.pid n) (sym is) ∙ begins) in
        (omega (arith, same), e)
    go (inr ne) = (let le = s.from_le in absurd (no_begin_inside c who (0 + s.index) s.turn s.later s.is_turn number n rec (omega (arith, le, ne)) s.below at' begins))
