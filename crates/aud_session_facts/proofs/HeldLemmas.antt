-- What the builder of spans is told gives it the rooms that the session holds in the end.
use Rattle.std.proofs.Common.{◌≡◌, ◌<◌, ◌≤◌, ◌+◌, ◌-◌, ℕ, zero, suc, Bool, List, [], ◌∷◌, ◌++◌, map, filter, length, take, get_or, Option, slice_get, option_map, refl, sym, ap, ◌∙◌, arith}
use Rattle.std.proofs.lemmas.Bool.{cond_both}
use Rattle.std.proofs.lemmas.List.{map-append, take_more}
use Rattle.aud_cert.specs.Certificate.{TurnSeen, turn_at}
use Rattle.aud_tap.specs.declared.records.NodeRec.{NodeRec}
use Rattle.aud_node.specs.Cluster.{Cluster, node_log}
use Rattle.aud_node.specs.Lists.{between, numbers_from}
use Rattle.aud_node.specs.OwnRecords.{record_names}
use Rattle.aud_node.specs.Stream.{Text}
use Rattle.aud_rooms.specs.Assigned.{Assigned, changed_by}
use Rattle.aud_rooms.specs.Rooms.{Rooms}
use Rattle.aud_rooms.specs.Turns.{Who, Turn, AreTurns, slice_of}
use Rattle.aud_rooms.specs.TurnsDue.{rooms_at_end}
use Rattle.aud_base.proofs.Lists.{element_at, between-more, between-none}
use Rattle.aud_rooms.proofs.OwnNumbers.{own_between-is}
use Rattle.aud_rooms.proofs.Records.{other_rooms}
use Rattle.aud_session_facts.specs.Missed.{rooms_after_all}
use Rattle.aud_session_facts.specs.Held.{changed_by_some, walked_record, walked_records, walked_turn, walked_turns}

-- the same state with other rooms held
abbrev holding : Assigned → Rooms → Assigned
holding a held = record a { held = held }

module _ (c : Cluster) (pid : Text) (t : Turn) (within : t.to ≤ length (node_log c t.node)) where
  -- the records of the turn's node
  abbrev log : List NodeRec
  log = node_log c t.node

  -- the record with the number is the session's
  abbrev own : ℕ → Bool
  own number = record_names (slice_get log number) pid

  -- the session's own records from one on leave the rooms that all records do
  held_from : (count x : ℕ) (a : Assigned) → x + count ≡ t.to
      → walked_records c t.node pid (filter own (numbers_from x count)) a ≡ holding a (rooms_at_end pid a.held (between log x t.to))
  held_from zero x a e = ap (λ recs. holding a (rooms_at_end pid a.held recs)) (sym (between-none log x t.to (omega arith)))
  held_from (suc count) x a e =
      let (rec, at) = element_at log x (omega (arith, e)) in
      let records = between-more log x t.to rec (omega (arith, e)) at in
      let rest = filter own (numbers_from (suc x) count) in
      cond_both (own x) (x ∷ rest) rest (λ ns. walked_records c t.node pid ns a ≡ holding a (rooms_at_end pid a.held (between log x t.to)))
      (λ is.
      ap (λ o. walked_records c t.node pid rest (changed_by_some pid o a)) at
      ∙ held_from count (suc x) (changed_by pid rec a) (omega (arith, e))
      ∙ ap (λ recs. holding a (rooms_at_end pid a.held recs)) (sym records))
      (λ is.
      held_from count (suc x) a (omega (arith, e))
      ∙ ap (λ held. holding a (rooms_at_end pid held (between log (suc x) t.to))) (sym (other_rooms pid a.held rec (ap (λ o. record_names o pid) (sym at) ∙ is)))
      ∙ ap (λ recs. holding a (rooms_at_end pid a.held recs)) (sym records))

  -- what is told of a turn leaves the rooms that its records do
  turn_held : t.from ≤ t.to → (a : Assigned) → walked_turn c pid t a ≡ holding a (rooms_at_end pid a.held (slice_of c t).recs)
  turn_held h a =
      ap (λ ns. walked_records c t.node pid ns a) (own_between-is log pid t.from t.to h within)
      ∙ held_from (t.to - t.from) t.from a (omega arith)

-- what is told of turns, one after the other, leaves the rooms that the session holds in the end
pub turns_held : (c : Cluster) (who : Who) (k : ℕ) (turns : List Turn) (a : Assigned) → AreTurns c who k turns
    → walked_turns c who.pid turns a ≡ holding a (rooms_after_all who.pid a.held (map (slice_of c) turns))
turns_held c who k [] a are = refl
turns_held c who k (t ∷ turns) a (turn, later) =
    let some = turn.some in
    ap (walked_turns c who.pid turns) (turn_held c who.pid t turn.within (omega arith) a)
    ∙ turns_held c who (suc k) turns (holding a (rooms_at_end who.pid a.held (slice_of c t).recs)) later

-- one record more
pub walked_records-more : (c : Cluster) (node : ℕ) (pid : Text) (numbers : List ℕ) (number : ℕ) (a : Assigned)
    → walked_records c node pid (numbers ++ number ∷ []) a ≡ walked_record c node pid number (walked_records c node pid numbers a)
walked_records-more c node pid [] number a = refl
walked_records-more c node pid (n ∷ numbers) number a = walked_records-more c node pid numbers number (walked_record c node pid n a)

-- one turn more
pub walked_turns-more : (c : Cluster) (pid : Text) (turns : List Turn) (t : Turn) (a : Assigned) → walked_turns c pid (turns ++ t ∷ []) a ≡ walked_turn c pid t (walked_turns c pid turns a)
walked_turns-more c pid [] t a = refl
walked_turns-more c pid (s ∷ turns) t a = walked_turns-more c pid turns t (walked_turn c pid s a)

-- one record more for the builder
pub record_told : (c : Cluster) (node : ℕ) (pid : Text) (numbers : List ℕ) (number : ℕ) (o : Option Assigned)
    → option_map (walked_record c node pid number) (option_map (walked_records c node pid numbers) o) ≡ option_map (walked_records c node pid (numbers ++ number ∷ [])) o
record_told c node pid numbers number o = grind (arith, walked_records-more c node pid numbers number)

-- where one turn more of those shown stands
pub places-more : (c : Cluster) (turns : List TurnSeen) (i : ℕ) (t : TurnSeen) → i < length turns → t ≡ get_or turns i t
    → map (turn_at c) (take (i + 1) turns) ≡ map (turn_at c) (take i turns) ++ turn_at c t ∷ []
places-more c turns i t h is = ap (map (turn_at c)) (take_more turns i t h ∙ ap (λ x. take i turns ++ x ∷ []) (sym is)) ∙ map-append (turn_at c) (take i turns) (t ∷ [])
