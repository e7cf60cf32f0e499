-- CHAIN: the record that doesn't fit is among the rows.
use Rattle.std.proofs.Common.{◌≡◌, ◌++◌, ◌&&◌, ◌||◌, ℕ, Bool, true, false, cond, List, [], ◌∷◌, map, refl, sym, ap, ◌∙◌, subst, arith, inl, inr, nat_eq, Option, Some, None, option_to_list}
use Rattle.std.specs.List.{list_any}
use Rattle.std.specs.Option.{option_map}
use Rattle.std.proofs.lemmas.Bool.{and_parts}
use Rattle.std.proofs.lemmas.Bool.Decides.{nat_tests}
use Rattle.aud_tap.specs.declared.records.NodeRec.{NodeRec}
use Rattle.aud_node.specs.Cluster.{Cluster}
use Rattle.aud_node.specs.Stream.{Text}
use Rattle.aud_rooms.specs.Turns.{HasNoTurn}
use Rattle.aud_maker.specs.Chain.{HasNoChain}
use Rattle.aud_session_facts.specs.declared.marks.TurnMark.{TurnMark}
use Rattle.aud_session_facts.specs.declared.misfit.Misfit.{Misfit}
use Rattle.aud_session_facts.specs.declared.misfit.Misfit.TheVariants.{NeverOpened, BegunTwice, MissingTurn, BeforeTurns, AfterTurn, InsideTurn, MissingBreak, StrayBreak, OtherBreak, BackAfterGone}
use Rattle.aud_session_facts.specs.declared.place.RecordPlace.{RecordPlace}
use Rattle.aud_session_facts.specs.Marks.{turn_marks}
use Rattle.aud_session_facts.specs.Misfit.{IsMisfit, HasChain}
use Rattle.aud_session_facts.specs.Places.{record_at, Begins}
use Rattle.aud_input.specs.TapLines.{TapLines}
use Rattle.aud_rows.specs.declared.row.Role.TheVariants as role
use Rattle.aud_rows.specs.Rows.{node_row}
use Rattle.aud_rows.specs.Seen.{RowSeen}
use Rattle.aud_session_facts.specs.declared.shown.node_records.NodeRecord.{NodeRecord}
use Rattle.aud_session_facts.specs.NodeRows.{record_row, node_rows}
use Rattle.aud_findings.specs.ChainRecords.{fault_at, earlier_at, mark_role, is_at, role_in, is_fault_at, other_at, chain_records}
use Rattle.aud_findings.specs.Evidence.{ShowsOr}
use Rattle.aud_findings.specs.ShowsChain.{ShowsChain}
use Rattle.aud_laws.specs.FaultRows.{KnowsEachRecord, has_fault_row}
use Rattle.aud_laws.proofs.FaultRow.Rows.{Marked, marked_and, marked_after, node_marked}

-- ---- the record of a misfit

-- the misfit names a record that doesn't fit, and that record is there
record IsAt (c : Cluster) (misfit : Misfit) : Type 0 where
  place : RecordPlace
  names : fault_at misfit ≡ Some place
  rec : NodeRec
  there : record_at c place ≡ Some rec

module _ (c : Cluster) (pid : Text) where
  begins_at : (misfit : Misfit) (k : ℕ) (place : RecordPlace) → fault_at misfit ≡ Some place → Begins c pid k place → IsAt c misfit
  begins_at misfit k place names begins = record { place = place; names = names; rec = begins.rec; there = begins.there }

  misfit_at : (misfit : Misfit) → IsMisfit c pid misfit → (HasNoTurn c pid 0 → ⊥) → IsAt c misfit
  misfit_at NeverOpened is opened = absurd (opened is)
  misfit_at (BegunTwice k first again) is opened = begins_at (BegunTwice k first again) k again refl is.again_begins
  misfit_at (MissingTurn k back) is opened = begins_at (MissingTurn k back) is.later back refl is.begins
  misfit_at (BeforeTurns place) is opened = record { place = place; names = refl; rec = is.own.rec; there = is.own.there }
  misfit_at (AfterTurn end place) is opened = record { place = place; names = refl; rec = is.own.rec; there = is.own.there }
  misfit_at (InsideTurn begin place) is opened = record { place = place; names = refl; rec = is.rec; there = is.there }
  misfit_at (MissingBreak k begin back) is opened = begins_at (MissingBreak k begin back) _ back refl is.unbroken.next
  misfit_at (StrayBreak k begin broke back) is opened = begins_at (StrayBreak k begin broke back) _ back refl is.unbroken.next
  misfit_at (OtherBreak k begin broke) is opened = record { place = broke; names = refl; rec = _; there = is.breaks }
  misfit_at (BackAfterGone gone back) is opened = begins_at (BackAfterGone gone back) _ back refl is.next

-- ---- the rows

-- two places of one node and one number are one
pub same_place : (p q : RecordPlace) → (nat_eq p.node q.node && nat_eq p.number q.number) ≡ true → p ≡ q
same_place p q e =
    let (nodes, numbers) = and_parts (nat_eq p.node q.node) (nat_eq p.number q.number) e in
    let node : p.node ≡ q.node = grind (arith, nat_tests, nodes) in
    let number : p.number ≡ q.number = grind (arith, nat_tests, numbers) in
    ap (λ n. let r : RecordPlace = record { node = n; number = p.number } in r) node ∙ ap (λ n. let r : RecordPlace = record { node = q.node; number = n } in r) number

module _ (c : Cluster) (lines : List TapLines) (known : KnowsEachRecord c.taps lines) (misfit : Misfit) (at : IsAt c misfit) where
  -- a record that begins or ends a turn, as it is shown
  abbrev shown : TurnMark → NodeRecord
  shown m = record { place = m.place; role = role_in misfit m }

  -- where it is the one that doesn't fit
  mark_marked : (m : TurnMark) → is_fault_at misfit m ≡ true → Marked (record_row c lines (shown m))
  mark_marked m is =
      let same : at.place ≡ m.place = same_place at.place m.place (sym (ap (λ o. is_at o m.place) at.names) ∙ is) in
      let there : record_at c m.place ≡ Some at.rec = ap (record_at c) (sym same) ∙ at.there in
      let as_fault : role_in misfit m ≡ role.Fault = ap (λ b. cond b role.Fault (cond (is_at (earlier_at misfit) m.place) role.Earlier (mark_role m.mark))) is in
      subst (λ r. Marked (node_row c lines m.place.node m.place.number r)) (sym as_fault) (node_marked c lines known m.place.node m.place.number at.rec there)

  marks_marked : (ms : List TurnMark) (more : List NodeRecord) → list_any (is_fault_at misfit) ms ≡ true → has_fault_row (node_rows c lines (map shown ms ++ more)) ≡ true
  marks_marked [] more any = absurd (cc)
  marks_marked (m ∷ ms) more any = go (is_fault_at misfit m) refl any (marks_marked ms more)
    where
      go : (b : Bool) → is_fault_at misfit m ≡ b → (b || list_any (is_fault_at misfit) ms) ≡ true
          → (list_any (is_fault_at misfit) ms ≡ true → has_fault_row (node_rows c lines (map shown ms ++ more)) ≡ true)
          → has_fault_row (node_rows c lines (map shown (m ∷ ms) ++ more)) ≡ true
      go true is any rest = marked_and (record_row c lines (shown m)) (node_rows c lines (map shown ms ++ more)) (mark_marked m is)
      go false is any rest = marked_after (record_row c lines (shown m)) (node_rows c lines (map shown ms ++ more)) (rest any)

  -- where it is none of them, it is behind them
  behind_marks : (ms : List TurnMark) (more : List NodeRecord) → has_fault_row (node_rows c lines more) ≡ true → has_fault_row (node_rows c lines (map shown ms ++ more)) ≡ true
  behind_marks [] more h = h
  behind_marks (m ∷ ms) more h = marked_after (record_row c lines (shown m)) (node_rows c lines (map shown ms ++ more)) (behind_marks ms more h)

  chain_marked : (marks : List TurnMark) → has_fault_row (node_rows c lines (chain_records misfit marks)) ≡ true
  chain_marked marks = go (list_any (is_fault_at misfit) marks) refl
    where
      last : Option RecordPlace → List NodeRecord
      last o = option_to_list (option_map (λ place. let r : NodeRecord = record { place = place; role = role.Fault } in r) o)

      go : (b : Bool) → list_any (is_fault_at misfit) marks ≡ b → has_fault_row (node_rows c lines (chain_records misfit marks)) ≡ true
      go true any = marks_marked marks (last (other_at misfit marks)) any
      go false any =
          let other : other_at misfit marks ≡ Some at.place = ap (λ b. cond b None (fault_at misfit)) any ∙ at.names in
          behind_marks marks (last (other_at misfit marks))
          (subst (λ o. has_fault_row (node_rows c lines (last o)) ≡ true) (sym other)
          (marked_and (node_row c lines at.place.node at.place.number role.Fault) [] (node_marked c lines known at.place.node at.place.number at.rec at.there)))

pub chain_shown : (c : Cluster) (lines : List TapLines) (known : KnowsEachRecord c.taps lines) (pid : Text) (rows : List RowSeen) → HasNoChain c pid → (HasNoTurn c pid 0 → ⊥)
    → ShowsOr (ShowsChain c lines pid) (HasChain c pid) rows → has_fault_row rows ≡ true
chain_shown c lines known pid rows holds opened (inl shows) =
    ap has_fault_row shows.are_its_rows ∙ chain_marked c lines known shows.misfit (misfit_at c pid shows.misfit shows.is_misfit opened) (turn_marks c pid)
chain_shown c lines known pid rows holds opened (inr (has, none)) = absurd (holds has.who has.turns has.names has.chain)
