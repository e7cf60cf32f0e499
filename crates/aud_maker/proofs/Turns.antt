-- The records of the turns of a chain.
use Rattle.std.proofs.Common.{◌≡◌, ◌≤◌, ◌+◌, ◌-◌, ℕ, zero, suc, Bool, true, false, List, [], ◌∷◌, length, take, drop, Option, Some, slice_get, refl, sym, ap, subst, ◌∙◌, ◌⊎◌, arith, length-take, length-drop}
use Rattle.std.proofs.lemmas.Option.{same_Some}
use Rattle.aud_tap.specs.declared.records.NodeRec.{NodeRec}
use Rattle.aud_node.specs.Cluster.{Cluster, node_log}
use Rattle.aud_node.specs.Stream.{Text}
use Rattle.aud_node.specs.TurnRecords.{begins_turn, begins_any_turn, ends_any_turn, rest_of_turn}
use Rattle.aud_rooms.specs.Turns.{Who, Turn, Part, Inner, Last, Foreign, End, ByLog, part_of, end_past, turn_end, MayEnd, IsTurn, AreTurns, IsChain}
pub use Rattle.aud_rooms.proofs.Turns.{begins-names, beginning-begins, no_begin_inside, stands}
use Rattle.aud_rooms.proofs.Turns.{begins_there, turn_there}
use Rattle.aud_maker.specs.Ended.{end_by}

-- ---- records after the first of a turn

-- such a record stands inside, or begins a turn, or ends one
abbrev pub Kind : Bool → Bool → Part → Option End → Type 0
Kind begins ends part by =
    ((begins ≡ false) × (ends ≡ false) × (part ≡ Inner) × (by ≡ Some ByLog))
    ⊎ (((begins ≡ true) × (part ≡ Foreign))
    ⊎ ((begins ≡ false) × (ends ≡ true) × ((recs : List NodeRec) (rest : Option End) (e : End) → end_past part recs rest ≡ Some e → recs ≡ []) × (end_past part [] (Some ByLog) ≡ by)))

-- a record that ends a turn is its last one
alone : (last : End) (recs : List NodeRec) (rest : Option End) (e : End) → end_past (Last last) recs rest ≡ Some e → recs ≡ []
alone last recs rest e is = grind arith

-- each record after a turn's first stands inside it, begins another turn, or ends this one
pub kind : (pid : Text) (k : ℕ) (rec : NodeRec) → Kind (begins_any_turn pid rec) (ends_any_turn pid rec) (part_of pid k rec) (end_by pid k (Some rec))
kind pid k rec = grind (arith, alone)

-- how many records the rest of a turn has, which ends within these or with the log
rest-count : (pid : Text) (k : ℕ) (log : List NodeRec) (count : ℕ) (e : End) → count ≤ length log → turn_end pid k (take count log) ≡ Some e → (e ≡ ByLog → count ≡ length log)
    → length (rest_of_turn pid log) ≡ count
rest-count pid k [] zero e h ends with_log = refl
rest-count pid k [] (suc count) e h ends with_log = absurd (omega arith)
rest-count pid k (x ∷ xs) zero e h ends with_log = let all = with_log (sym (same_Some ByLog e ends)) in absurd (omega (arith, all))
rest-count pid k (x ∷ xs) (suc count) e h ends with_log =
    grind (arith, kind pid k x, rest-count pid k xs count e, length-take count xs, with_log, λ (is : e ≡ ByLog). with_log is)

-- a turn that nothing ends goes on to the end of its node's log
by_log : (c : Cluster) (t : Turn) (later : List Turn) (e : End) → MayEnd c t later e → e ≡ ByLog → t.to ≡ length (node_log c t.node)
by_log c t later e may is = grind arith

module _ (c : Cluster) (who : Who) (k : ℕ) (t : Turn) (later : List Turn) (turn : IsTurn c who k t later) where
  -- a turn is its first record and the rest of it
  pub turn-to : t.to ≡ suc (t.from + length (rest_of_turn who.pid (drop (suc t.from) (node_log c t.node))))
  turn-to =
      let some = turn.some in
      let within = turn.within in
      let left = length-drop (suc t.from) (node_log c t.node) in
      let count = rest-count who.pid k (drop (suc t.from) (node_log c t.node)) (t.to - suc t.from) turn.end (omega arith) turn.ends (λ is. (let all = by_log c t later turn.end turn.may_end is in omega arith)) in
      omega arith

-- ---- the turns of a list

-- the turn at a place of the list is the turn of that number
pub first_there : (c : Cluster) (who : Who) (turns : List Turn) (j : ℕ) (t : Turn) → AreTurns c who 0 turns → slice_get turns j ≡ Some t → (later : List Turn) × IsTurn c who j t later
first_there c who turns j t are at =
    let same : 0 + j ≡ j = omega arith in
    let (later, is) = turn_there c who 0 turns j t are at in
    (later, subst (λ n. IsTurn c who n t later) same is)

-- a record that begins turn n is the first of turn n
pub found : (c : Cluster) (who : Who) (turns : List Turn) → IsChain c who turns → (node number n : ℕ) (rec : NodeRec) → slice_get (node_log c node) number ≡ Some rec → begins_turn who.pid n rec ≡ true
    → (t : Turn) × (slice_get turns n ≡ Some t) × (t.node ≡ node) × (number ≡ t.from)
found c who turns chain node number n rec at begins =
    let s = stands c who 0 turns node number chain.are_turns (chain.covers node number rec at (begins-names who.pid n rec begins)) in
    let (place, first) = begins_there c who turns node number n rec chain.are_turns at begins s in
    (s.turn, ap (slice_get turns) (sym place) ∙ s.is_there, s.same_node, first)
