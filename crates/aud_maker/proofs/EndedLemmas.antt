-- Turns that end as they may are turns.
use Rattle.std.proofs.Common.{◌≡◌, ◌<◌, ◌≤◌, ◌+◌, ◌-◌, ℕ, suc, true, List, [], ◌∷◌, length, drop, get_or, Option, Some, slice_get, refl, sym, ap, ◌∙◌, add-one, nat_eq, arith}
use Rattle.std.proofs.lemmas.Bool.{and_parts, and_from}
use Rattle.std.proofs.lemmas.Grind.{common_steps}
use Rattle.std.proofs.lemmas.Bool.Decides.{nat_tests}
use Rattle.std.proofs.lemmas.List.{at_drop_more}
use Rattle.aud_tap.specs.declared.records.NodeRec.{NodeRec}
use Rattle.aud_node.specs.Cluster.{Cluster, node_log}
use Rattle.aud_node.specs.Lists.{between, is_empty}
use Rattle.aud_node.specs.OwnPlaces.{own_places}
use Rattle.aud_node.specs.Stream.{Text}
use Rattle.aud_node.specs.TurnRecords.{begins_turn, rest_of_turn}
use Rattle.aud_node.proofs.TurnLemmas.{rest-taken}
use Rattle.aud_rooms.specs.Turns.{Who, Turn, beginning, End, ByLog, turn_end, MayEnd, AreTurns}
use Rattle.aud_base.proofs.Lists.{slice_get-drop}
use Rattle.aud_base.proofs.SameText.{same_text}
use Rattle.aud_maker.specs.Begun.{AreBegun}
use Rattle.aud_maker.specs.Opening.{names_opened, opening_of}
use Rattle.aud_maker.specs.Ended.{end_by, may_end, is_ended, are_ended}
use Rattle.aud_maker.proofs.Turns.{kind}
use Rattle.aud_maker.proofs.BegunLemmas.{IsIndexed, begun-is}

-- ---- the end of a turn that a log begins

-- a record that begins a turn doesn't end it
begin-plain : (pid : Text) (k : ℕ) (rec : NodeRec) → begins_turn pid k rec ≡ true → end_by pid k (Some rec) ≡ Some ByLog
begin-plain pid k rec e = grind arith

-- the rest of a turn ends as its last record says
rest-end : (pid : Text) (k : ℕ) (rec : NodeRec) (recs : List NodeRec) → end_by pid k (Some rec) ≡ Some ByLog
    → turn_end pid k (rest_of_turn pid recs) ≡ end_by pid k (slice_get (rec ∷ recs) (length (rest_of_turn pid recs)))
rest-end pid k rec [] plain = sym plain
rest-end pid k rec (x ∷ xs) plain = grind (arith, kind pid k x, rest-end pid k x xs)

-- a turn that a log begins ends as its last record says
indexed-ends : (log : List NodeRec) (pid : Text) (k from to : ℕ) → IsIndexed log pid k from to → turn_end pid k (between log (suc from) to) ≡ end_by pid k (slice_get log (to - 1))
indexed-ends log pid k from to is =
    let rest = rest_of_turn pid (drop (suc from) log) in
    let count : to - suc from ≡ length rest = omega (arith, is.to_is) in
    let last : to - 1 ≡ from + length rest = omega (arith, is.to_is) in
    grind (arith, count, last, rest-taken pid (drop (suc from) log), rest-end pid k is.first (drop (suc from) log), begin-plain pid k is.first is.begins, is.parts, slice_get-drop from log (length rest) (to - 1) last)

-- ---- how turns may end

-- where the test of an end passes, the turn may end so
may-true : (c : Cluster) (t : Turn) (later : List Turn) (o : Option End) → may_end (is_empty later) (nat_eq t.to (length (node_log c t.node))) o ≡ true → (e : End) × (o ≡ Some e) × MayEnd c t later e
may-true c t later o e = grind (arith, nat_tests)

-- where a turn may end so, the test of its end passes
true-may : (c : Cluster) (t : Turn) (later : List Turn) (e : End) → MayEnd c t later e → may_end (is_empty later) (nat_eq t.to (length (node_log c t.node))) (Some e) ≡ true
true-may c t later e may = grind (arith, nat_tests)

-- a record that begins turn k is the one that begins it, where its names are the session's
begun-beginning : (who : Who) (k : ℕ) (rec : NodeRec) → begins_turn who.pid k rec ≡ true → (k ≡ 0 → names_opened (Some rec) ≡ Some (who.sid, who.nsp)) → rec ≡ beginning who k
begun-beginning who k rec e opened = grind (arith, nat_tests, λ (other : Text). same_text other who.pid)

module _ (c : Cluster) (who : Who) where
  -- turns that the nodes begin and that end as they may are the session's turns
  pub ended-turns : (k : ℕ) (turns : List Turn) → AreBegun c (own_places c who.pid) who.pid k turns → (k ≡ 0 → opening_of c turns ≡ Some (who.sid, who.nsp)) → are_ended c who.pid k turns ≡ true → AreTurns c who k turns
  ended-turns k [] begun opened ended = tt
  ended-turns k (t ∷ later) begun opened ended =
      let both = and_parts (is_ended c who.pid k t (is_empty later)) (are_ended c who.pid (suc k) later) ended in
      let r = begun-is c who.pid k t begun.0 in
      let to_is = r.to_is in
      let (e, is, may) = may-true c t later (end_by who.pid k (slice_get (node_log c t.node) (t.to - 1))) both.0 in (
        record {
          within = r.within;
          some = omega arith;
          begins = r.there ∙ ap Some (begun-beginning who k r.first r.begins (λ first. ap names_opened (sym r.there) ∙ opened first));
          end = e;
          ends = indexed-ends (node_log c t.node) who.pid k t.from t.to r ∙ is;
          may_end = may;
        },
        ended-turns (suc k) later begun.1 (λ no. absurd (omega arith)) both.1,
      )

  -- and the session's turns end as they may
  pub turns-ended : (k : ℕ) (turns : List Turn) → AreBegun c (own_places c who.pid) who.pid k turns → AreTurns c who k turns → are_ended c who.pid k turns ≡ true
  turns-ended k [] begun are = refl
  turns-ended k (t ∷ later) begun are =
      let r = begun-is c who.pid k t begun.0 in
      let is : end_by who.pid k (slice_get (node_log c t.node) (t.to - 1)) ≡ Some are.0.end = sym (indexed-ends (node_log c t.node) who.pid k t.from t.to r) ∙ are.0.ends in
      and_from _ _ (ap (may_end (is_empty later) (nat_eq t.to (length (node_log c t.node)))) is ∙ true-may c t later are.0.end are.0.may_end) (turns-ended (suc k) later begun.1 are.1)

-- a chain's first turn names the session
pub opening-names : (c : Cluster) (who : Who) (turns : List Turn) → 0 < length turns → AreTurns c who 0 turns → opening_of c turns ≡ Some (who.sid, who.nsp)
opening-names c who turns some are = grind arith

-- whether there are none, by their number
empty-length : (turns : List Turn) → is_empty turns ≡ nat_eq (length turns) 0
empty-length turns = grind (arith, nat_tests)

-- no turns are left exactly after the last
left-empty : (turns : List Turn) (n : ℕ) → n ≤ length turns → is_empty (drop n turns) ≡ nat_eq n (length turns)
left-empty turns n h = grind (arith, common_steps, nat_tests, empty-length (drop n turns))

-- one turn more that ends as it may
pub ended-step : (c : Cluster) (pid : Text) (turns : List Turn) (n : ℕ) (t : Turn) → n < length turns → t ≡ get_or turns n t → true ≡ is_ended c pid n t (nat_eq (n + 1) (length turns))
    → are_ended c pid (n + 1) (drop (n + 1) turns) ≡ are_ended c pid n (drop n turns)
ended-step c pid turns n t h is ended = grind (arith, at_drop_more (are_ended c pid n) turns n t h, left-empty turns (n + 1), add-one n)
