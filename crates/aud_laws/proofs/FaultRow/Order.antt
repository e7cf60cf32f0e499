-- ORDER: the record out of order is among the rows.
use Rattle.std.proofs.Common.{◌≡◌, ◌<◌, ◌≤◌, ◌+◌, ℕ, zero, suc, Bool, true, List, [], ◌∷◌, length, refl, sym, ap, ◌∙◌, subst, arith, inl, inr, Some, slice_get}
use Rattle.std.specs.List.{All, Contains, list_all}
use Rattle.std.proofs.lemmas.Bool.{true≢false}
use Rattle.std.proofs.lemmas.Option.{slice_get_within}
use Rattle.aud_tap.specs.declared.records.StreamRec.{StreamRec}
use Rattle.aud_tap.specs.declared.records.NodeRec.{NodeRec}
use Rattle.aud_base.proofs.Lists.{element_at}
use Rattle.aud_node.specs.Cluster.{Cluster, node_log}
use Rattle.aud_node.specs.Lists.{numbers_from}
use Rattle.aud_node.specs.Ordered.{is_ordered}
use Rattle.aud_node.specs.OwnPlaces.{own_places}
use Rattle.aud_node.specs.Stream.{Text}
use Rattle.aud_rooms.specs.Turns.{Who, Turn, beginning, IsTurn, AreTurns}
use Rattle.aud_rooms.proofs.Turns.{begins-names, beginning-begins}
use Rattle.aud_maker.specs.Faults.{HasUnordered}
use Rattle.aud_maker.proofs.BegunLemmas.{own_place}
use Rattle.aud_input.specs.TapLines.{TapLines}
use Rattle.aud_rows.specs.declared.row.Role.TheVariants.{Earlier, Fault}
use Rattle.aud_rows.specs.Rows.{node_row}
use Rattle.aud_rows.specs.Seen.{RowSeen}
use Rattle.aud_session_facts.specs.RowLists.{row_and}
use Rattle.aud_session_facts.specs.NodeRows.{node_rows}
use Rattle.aud_findings.specs.Evidence.{ShowsOr}
use Rattle.aud_findings.specs.Order.{AreInOrder}
use Rattle.aud_findings.specs.ShowsOrder.{ShowsOrder, AreOrdered, order_records}
use Rattle.aud_laws.specs.FaultRows.{KnowsEachRecord, has_fault_row}
use Rattle.aud_laws.proofs.FaultRow.Rows.{marked_and, marked_after, node_marked}

-- ---- a log in order

all_pass : (test : ℕ → Bool) (first count : ℕ) → ((n : ℕ) → first ≤ n → n < first + count → test n ≡ true) → list_all test (numbers_from first count) ≡ true
all_pass test first zero h = refl
all_pass test first (suc count) h =
    grind (arith, h first (omega arith) (omega arith), all_pass test (suc first) count (λ n from to. h n (omega (arith, from)) (omega (arith, to))))

ordered : (stream : List StreamRec) (log : List NodeRec) → 0 < length log → AreInOrder stream log → is_ordered stream log ≡ true
ordered stream [] some are = absurd (omega (arith, some))
ordered stream (rec ∷ recs) some are = all_pass _ 0 (length (rec ∷ recs)) (λ n from to. are n (omega (arith, to)))

-- ---- the node of a turn is one that the session was on

turn_of : (c : Cluster) (who : Who) (k : ℕ) (turns : List Turn) (t : Turn) → AreTurns c who k turns → Contains turns t → (n : ℕ) × (later : List Turn) × IsTurn c who n t later
turn_of c who k [] t are (i, within, is) = absurd (omega (arith, within))
turn_of c who k (x ∷ xs) t are (zero, within, is) = (k, xs, subst (λ u. IsTurn c who k u xs) is are.0)
turn_of c who k (x ∷ xs) t are (suc i, within, is) = turn_of c who (suc k) xs t are.1 (i, omega (arith, within), is)

in_each : (P : ℕ → Type 0) (xs : List ℕ) (x : ℕ) → All P xs → Contains xs x → P x
in_each P xs x all (k, within, is) = subst P is (all k x within)

ordered_not : (c : Cluster) (pid : Text) → HasUnordered c pid → AreOrdered c pid → ⊥
ordered_not c pid has are =
    let (n, later, turn) = turn_of c has.who 0 has.turns has.turn has.chain.are_turns has.among in
    let log = node_log c has.turn.node in
    let names = begins-names has.who.pid n (beginning has.who n) (beginning-begins has.who n) ∙ ap Some has.names in
    let own = own_place c pid has.turn.node has.turn.from (beginning has.who n) turn.begins names in
    let within = slice_get_within log has.turn.from (beginning has.who n) turn.begins in
    let is = ordered c.stream log (omega (arith, within)) (in_each (λ node. AreInOrder c.stream (node_log c node)) (own_places c pid) has.turn.node are own) in
    true≢false (sym is ∙ has.unordered)

-- ---- the rows

module _ (c : Cluster) (lines : List TapLines) (known : KnowsEachRecord c.taps lines) where
  unordered_marked : (node number : ℕ) (rec : NodeRec) → slice_get (node_log c node) number ≡ Some rec → has_fault_row (node_rows c lines (order_records node number)) ≡ true
  unordered_marked node zero rec at = marked_and (node_row c lines node zero Fault) [] (node_marked c lines known node zero rec at)
  unordered_marked node (suc number) rec at =
      marked_after (node_row c lines node number Earlier) (row_and (node_row c lines node (suc number) Fault) [])
      (marked_and (node_row c lines node (suc number) Fault) [] (node_marked c lines known node (suc number) rec at))

  pub order_shown : (pid : Text) (rows : List RowSeen) → HasUnordered c pid → ShowsOr (ShowsOrder c lines pid) (AreOrdered c pid) rows → has_fault_row rows ≡ true
  order_shown pid rows has (inl shows) =
      let first = shows.is_unordered.1 in
      let (rec, at) = element_at (node_log c shows.at.node) shows.at.number first.within in
      ap has_fault_row shows.are_its_rows ∙ unordered_marked shows.at.node shows.at.number rec at
  order_shown pid rows has (inr (are, none)) = absurd (ordered_not c pid has are)
