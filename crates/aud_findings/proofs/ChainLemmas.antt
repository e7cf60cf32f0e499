-- The turns of a chain, by their first and their last records.
use Rattle.std.proofs.Common.{◌≡◌, ◌<◌, ◌≤◌, ◌-◌, ◌+◌, ℕ, zero, suc, Bool, true, false, List, [], ◌∷◌, length, Option, Some, None, nat_lt, slice_get, refl, sym, ap, ◌∙◌, arith}
use Rattle.std.specs.Prelude.{if◌then◌else◌}
use Rattle.std.proofs.lemmas.Option.{none-some, same_Some}
use Rattle.aud_base.specs.Lists.{between}
use Rattle.aud_base.proofs.Lists.{between-more, between-none, element_at}
use Rattle.aud_tap.specs.declared.records.NodeRec.{NodeRec}
use Rattle.aud_node.specs.Cluster.{Cluster, node_log}
use Rattle.aud_node.specs.Stream.{Text}
use Rattle.aud_rooms.specs.Turns.{Who, Turn, End, Part, IsTurn, beginning, end_past, part_of, turn_end}
use Rattle.aud_rooms.specs.Turns as chain
use Rattle.aud_findings.specs.declared.timeline.span.TurnSpan.{TurnSpan}
use Rattle.aud_findings.specs.ChainTurns.{chain_span, chain_turn, end_of, ends_as, span_between}

-- a record with others after it in a turn stands inside
inside : (p : Part) (rec : NodeRec) (recs : List NodeRec) (past : Option End) (end : End) → end_past p (rec ∷ recs) past ≡ Some end → past ≡ Some end
inside chain.Inner rec recs past end e = e
inside (chain.Last last) rec recs past end e = absurd (none-some end e)
inside chain.Foreign rec recs past end e = absurd (none-some end e)

-- the last record of a turn ends it
ends-one : (pid : Text) (k : ℕ) (rec : NodeRec) (end : End) → turn_end pid k (rec ∷ []) ≡ Some end → end_of pid (Some rec) ≡ ends_as end
ends-one pid k rec end e = grind (arith, e)

ends-at : (log : List NodeRec) (pid : Text) (k d from to : ℕ) (end : End) → to ≡ from + suc d → to ≤ length log → turn_end pid k (between log from to) ≡ Some end
    → end_of pid (slice_get log (to - 1)) ≡ ends_as end
ends-at log pid k zero from to end is within e =
    let first = element_at log from (omega (arith, is, within)) in
    let one : between log from to ≡ first.0 ∷ [] =
    between-more log from to first.0 (omega (arith, is)) first.1 ∙ ap (λ recs. first.0 ∷ recs) (between-none log (suc from) to (omega (arith, is))) in
    let number : to - 1 ≡ from = omega (arith, is) in
    ap (λ n. end_of pid (slice_get log n)) number ∙ ap (end_of pid) first.1 ∙ ends-one pid k first.0 end (ap (turn_end pid k) (sym one) ∙ e)
ends-at log pid k (suc d) from to end is within e =
    let first = element_at log from (omega (arith, is, within)) in
    let next = element_at log (suc from) (omega (arith, is, within)) in
    let later : between log (suc from) to ≡ next.0 ∷ between log (suc (suc from)) to = between-more log (suc from) to next.0 (omega (arith, is)) next.1 in
    let all : between log from to ≡ first.0 ∷ next.0 ∷ between log (suc (suc from)) to =
    between-more log from to first.0 (omega (arith, is)) first.1 ∙ ap (λ recs. first.0 ∷ recs) later in
    let past : turn_end pid k (next.0 ∷ between log (suc (suc from)) to) ≡ Some end =
    inside (part_of pid k first.0) next.0 (between log (suc (suc from)) to) (turn_end pid k (next.0 ∷ between log (suc (suc from)) to)) end (ap (turn_end pid k) (sym all) ∙ e) in
    ends-at log pid k d (suc from) to end (omega (arith, is)) within (ap (turn_end pid k) later ∙ past)

-- a turn of its first record alone ends with the log
begun-alone : (who : Who) (k : ℕ) → end_of who.pid (Some (beginning who k)) ≡ ends_as chain.ByLog
begun-alone who zero = refl
begun-alone who (suc k) = refl

shown : (who : Who) (k : ℕ) (t : Turn) (end : End) (first last : Option NodeRec) → first ≡ Some (beginning who k) → end_of who.pid last ≡ ends_as end
    → span_between t first last ≡ Some (chain_turn k t end)
shown who zero t end first last is ends =
    ap (λ rec. span_between t rec last) is
    ∙ ap (λ e. let s : TurnSpan = record (chain_turn zero t end) { ends = e } in Some s) ends
shown who (suc k) t end first last is ends =
    ap (λ rec. span_between t rec last) is
    ∙ ap (λ e. let s : TurnSpan = record (chain_turn (suc k) t end) { ends = e } in Some s) ends

ended : (c : Cluster) (who : Who) (k : ℕ) (t : Turn) (later : List Turn) (turn : IsTurn c who k t later) → end_of who.pid (slice_get (node_log c t.node) (t.to - 1)) ≡ ends_as turn.end
ended c who k t later turn = either (nat_lt (suc t.from) t.to) refl
  where
    either : (b : Bool) → nat_lt (suc t.from) t.to ≡ b → end_of who.pid (slice_get (node_log c t.node) (t.to - 1)) ≡ ends_as turn.end
    either true e =
        let more : suc t.from < t.to = grind (arith, e) in
        ends-at (node_log c t.node) who.pid k (t.to - suc (suc t.from)) (suc t.from) t.to turn.end (omega (arith, more)) turn.within turn.ends
    either false e =
        let some = turn.some in
        let alone : t.to ≡ suc t.from = grind (arith, e, some) in
        let number : t.to - 1 ≡ t.from = omega (arith, alone) in
        let none : between (node_log c t.node) (suc t.from) t.to ≡ [] = between-none (node_log c t.node) (suc t.from) t.to (omega (arith, alone)) in
        let by_log : chain.ByLog ≡ turn.end = same_Some chain.ByLog turn.end (ap (turn_end who.pid k) (sym none) ∙ turn.ends) in
        ap (λ n. end_of who.pid (slice_get (node_log c t.node) n)) number ∙ ap (end_of who.pid) turn.begins ∙ begun-alone who k ∙ ap ends_as by_log

pub turn-shown : (c : Cluster) (who : Who) (k : ℕ) (t : Turn) (later : List Turn) (turn : IsTurn c who k t later) → chain_span c t ≡ Some (chain_turn k t turn.end)
turn-shown c who k t later turn =
    let some = turn.some in
    let has : nat_lt t.from t.to ≡ true = grind (arith, some) in
    let log = node_log c t.node in
    ap (λ b. if b then span_between t (slice_get log t.from) (slice_get log (t.to - 1)) else None) has
    ∙ shown who k t turn.end (slice_get log t.from) (slice_get log (t.to - 1)) turn.begins (ended c who k t later turn)
