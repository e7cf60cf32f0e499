-- The record at which a fault shows is among the rows that are written of it.
use Rattle.std.proofs.Common.{◌≡◌, ◌≤◌, ◌||◌, ◌∷◌, [], ℕ, Bool, true, false, List, map, refl, sym, ap, ◌∙◌, arith, Option, Some, None, is_some}
use Rattle.std.specs.List.{list_any}
use Rattle.std.proofs.lemmas.Bool.{true≢false}
use Rattle.aud_node.specs.Cluster.{Cluster}
use Rattle.aud_node.specs.Stream.{Text}
use Rattle.aud_cert.specs.declared.fault.Fault.{Fault}
use Rattle.aud_cert.specs.declared.fault.Fault.TheVariants.{NoLog, Chain, Order, Client, Names, Frame, Orphan, Content, Extra, Doubled, Swapped, Lost, Window, Tail}
use Rattle.aud_maker.specs.Faults.{HasMakeFault}
use Rattle.aud_session_facts.specs.declared.account.Account.{Account}
use Rattle.aud_session_facts.specs.Account.{IsAccountOf, is_of_received}
use Rattle.aud_verdict.specs.Faults.{HoldsFirst, verdict_rank}
use Rattle.aud_input.specs.TapLines.{TapLines}
use Rattle.aud_rows.specs.declared.row.Row.{Row}
use Rattle.aud_rows.specs.Seen.{RowSeen, row_seen}
use Rattle.aud_explanation.specs.LongRows.{is_fault_row, rows_shown}
use Rattle.aud_explanation.proofs.RowsShown.{fault_row_shown}
use Rattle.aud_findings.specs.Evidence.{IsFaultShown, IsOfClient, IsOfSession}
use Rattle.aud_explain_app.specs.Explained.{IsAccountFound}
use Rattle.aud_laws.specs.FaultRows.{AreWrittenOf, HasReceived, KnowsEachRecord, has_fault_row, shows_at_record}
use Rattle.aud_laws.proofs.FaultRow.Chain.{chain_shown}
use Rattle.aud_laws.proofs.FaultRow.Found.{found_shown, tail_shown}
use Rattle.aud_laws.proofs.FaultRow.Names.{names_shown}
use Rattle.aud_laws.proofs.FaultRow.Order.{order_shown}
use Rattle.aud_laws.proofs.FaultRow.Otherwise.{VerdictIsFound}
use Rattle.aud_laws.proofs.FaultRow.Frame.{frame_shown}
use Rattle.aud_laws.proofs.FaultRow.Orphan.{orphan_shown}

-- ---- the account

-- there is an account of the session, and it is known
abbrev IsKnown : Cluster → Text → Bool → Type 0
IsKnown c pid k = (k ≡ true) × (a : Account) × IsAccountOf c pid a

module _ (c : Cluster) (whole : Bool) (pid : Text) (fault : Fault) (holds : HoldsFirst c whole pid fault) (later : 4 ≤ verdict_rank fault) where
  -- a fault of what the client's tap tells comes after those for which there is no certificate
  none_of_four : (other : Fault) → HasMakeFault c pid other → ⊥
  none_of_four NoLog is = holds.none_before NoLog (omega (arith, later)) is
  none_of_four Chain is = holds.none_before Chain (omega (arith, later)) is
  none_of_four Order is = holds.none_before Order (omega (arith, later)) is
  none_of_four Client is = holds.none_before Client (omega (arith, later)) is
  none_of_four _ is = is

  account_known : (account : Option Account) → IsAccountFound c pid account → IsKnown c pid (is_some account)
  account_known None (other, is) = absurd (none_of_four other is)
  account_known (Some a) is = (refl, a, is)

-- ---- the rows

module _ (c : Cluster) (lines : List TapLines) (known : KnowsEachRecord c.taps lines) (whole : Bool) (pid : Text) (rows : List RowSeen) where
  -- of a fault of what the client's tap tells
  of_session : (fault : Fault) (k : Bool) → k ≡ true → IsOfClient c lines pid k fault rows → IsOfSession c lines pid fault rows
  of_session fault false on is = absurd (true≢false (sym on))
  of_session fault true on is = is

  of_received : VerdictIsFound → (fault : Fault) (k : Bool) → HoldsFirst c whole pid fault → is_of_received fault ≡ true → IsKnown c pid k → IsOfClient c lines pid k fault rows
      → has_fault_row rows ≡ true
  of_received law fault k holds kind (on, a, of) is = found_shown c lines known whole pid fault rows holds kind a of law (of_session fault k on is)

  row_shown : VerdictIsFound → (fault : Fault) (k : Bool) → HoldsFirst c whole pid fault → (4 ≤ verdict_rank fault → IsKnown c pid k) → IsFaultShown c lines pid k fault rows
      → shows_at_record fault ≡ true → has_fault_row rows ≡ true
  row_shown law NoLog k holds of is at = absurd (true≢false (sym at))
  row_shown law Chain k holds of is at = chain_shown c lines known pid rows holds.holds (holds.none_before NoLog (omega arith)) is
  row_shown law Order k holds of is at = order_shown c lines known pid rows holds.holds is
  row_shown law Client k holds of is at = absurd (true≢false (sym at))
  row_shown law Names k holds of is at =
      let (s, is_s, has) = holds.holds in
      let its = of_session Names k (of (omega arith)).0 is in
      names_shown c lines known pid s its.session rows is_s has its.is_session its.is_shown
  row_shown law Frame k holds of is at =
      let (s, is_s, has) = holds.holds in
      let its = of_session Frame k (of (omega arith)).0 is in
      frame_shown c lines known pid s its.session rows is_s has its.is_session its.is_shown
  row_shown law Orphan k holds of is at =
      let (s, is_s, has) = holds.holds in
      let its = of_session Orphan k (of (omega arith)).0 is in
      orphan_shown c lines known pid s its.session rows is_s has its.is_session its.is_shown
  row_shown law (Content off) k holds of is at = of_received law (Content off) k holds refl (of (omega arith)) is
  row_shown law (Extra off) k holds of is at = of_received law (Extra off) k holds refl (of (omega arith)) is
  row_shown law (Doubled off) k holds of is at = of_received law (Doubled off) k holds refl (of (omega arith)) is
  row_shown law (Swapped off) k holds of is at = of_received law (Swapped off) k holds refl (of (omega arith)) is
  row_shown law (Lost off) k holds of is at = of_received law (Lost off) k holds refl (of (omega arith)) is
  row_shown law (Window conn) k holds of is at = of_received law (Window conn) k holds refl (of (omega arith)) is
  row_shown law (Tail count) k holds of is at = absurd (true≢false (sym at))

-- of long evidence it is among those that are written
written : (rows : List Row) → has_fault_row (map row_seen rows) ≡ true → has_fault_row (map row_seen (rows_shown rows)) ≡ true
written rows has = seen_any (rows_shown rows) ∙ fault_row_shown rows (sym (seen_any rows) ∙ has)
  where
    seen_any : (rows : List Row) → has_fault_row (map row_seen rows) ≡ list_any is_fault_row rows
    seen_any [] = refl
    seen_any (row ∷ rows) = ap (λ b. is_fault_row row || b) (seen_any rows)

pub fault_row_is_there : VerdictIsFound → (c : Cluster) (lines : List TapLines) (whole : Bool) (pid : Text) (fault : Fault) (rows : List RowSeen)
    → AreWrittenOf c lines whole pid fault rows → shows_at_record fault ≡ true → has_fault_row rows ≡ true
fault_row_is_there law c lines whole pid fault rows of at =
    let told = of.is_told in
    ap has_fault_row of.are
    ∙ written of.told.outcome.evidence.items
    (row_shown c lines of.known whole pid _ law fault (is_some told.account) of.verdict (λ later. account_known c whole pid fault of.verdict later told.account told.is_account) told.evidence at)

pub tail_row_is_there : (c : Cluster) (lines : List TapLines) (whole : Bool) (pid : Text) (count : ℕ) (rows : List RowSeen) → AreWrittenOf c lines whole pid (Tail count) rows → HasReceived c pid
    → has_fault_row rows ≡ true
tail_row_is_there c lines whole pid count rows of had =
    let told = of.is_told in
    let on = (account_known c whole pid (Tail count) of.verdict (omega arith) told.account told.is_account).0 in
    ap has_fault_row of.are
    ∙ written of.told.outcome.evidence.items
    (tail_shown c lines of.known whole pid count _ of.verdict had (of_session c lines of.known whole pid _ (Tail count) (is_some told.account) on told.evidence))
