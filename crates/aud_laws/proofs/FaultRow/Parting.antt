-- Where what was received parts from what was due, the row of the frame at which it does is there.
use Rattle.std.proofs.Common.{◌≡◌, ℕ, true, List, [], Option, Some, None, slice_get, ap, ◌∙◌}
use Rattle.std.specs.Option.{option_and_then}
use Rattle.aud_node.specs.Cluster.{Cluster}
use Rattle.aud_node.specs.Stream.{Text}
use Rattle.aud_check.specs.declared.difference.Difference.{Difference}
use Rattle.aud_check.specs.declared.difference.Difference.TheVariants.{Extra, Doubled, Swapped, Lost}
use Rattle.aud_check.specs.Difference.{IsDifference}
use Rattle.aud_check.specs.Window.{positions_received}
use Rattle.aud_input.specs.TapLines.{TapLines}
use Rattle.aud_verdict.specs.Session.{SessionLogs, IsSession, own_stays, due_to}
use Rattle.aud_rows.specs.declared.row.Role.TheVariants.{Earlier, Fault, Later}
use Rattle.aud_rows.specs.Seen.{RowSeen}
use Rattle.aud_session_facts.specs.DifferenceRows.{difference_rows, due_rows}
use Rattle.aud_session_facts.specs.RowLists.{row_and}
use Rattle.aud_session_facts.specs.SessionRows.{Session, asked_row, entry_row, got_row, reached_row}
use Rattle.aud_session_facts.specs.ShowsDifference.{AreNumbersOf}
use Rattle.aud_findings.specs.BesideRows.{beside_rows}
use Rattle.aud_findings.specs.ShowsFound.{ShowsDelivery}
use Rattle.aud_laws.specs.FaultRows.{KnowsEachRecord, has_fault_row}
use Rattle.aud_laws.proofs.FaultRow.Frames.{got_marked}
use Rattle.aud_laws.proofs.FaultRow.Rows.{Marked, marked_after, marked_and, marked_behind}

-- the frame's row is among those of an entry that was due, or was not
due_marked : (s : Session) (position frame : ℕ) (later : Option ℕ) → Marked (got_row s frame Fault) → has_fault_row (due_rows s position frame later) ≡ true
due_marked s position frame later h =
    marked_after (entry_row s position) _
    (marked_after (reached_row s position) _ (marked_and (got_row s frame Fault) (row_and (option_and_then (λ l. got_row s l Later) later) []) h))

module _ (c : Cluster) (lines : List TapLines) (known : KnowsEachRecord c.taps lines) (pid : Text) where
  module _ (s : SessionLogs) (is : IsSession c pid s) (numbers : List ℕ) (are : AreNumbersOf c pid s.client numbers) where
    abbrev over : Session
    over = record { c = c; lines = lines; turns = s.turns; client = s.client; numbers = numbers }

    there : (frame p : ℕ) → slice_get (positions_received (own_stays c s)) frame ≡ Some p → Marked (got_row over frame Fault)
    there = got_marked c lines known pid s is numbers are s.turns

    -- among those of a difference
    difference_marked : (d : Difference) → IsDifference (positions_received (own_stays c s)) (due_to c s) d → has_fault_row (difference_rows over d) ≡ true
    difference_marked (Extra frame p) d = due_marked over p frame None (there frame p d.is_there)
    difference_marked (Doubled first again p) d =
        marked_after (entry_row over p) _
        (marked_after (got_row over first Earlier) _ (marked_after (asked_row over again) _ (marked_and (got_row over again Fault) [] (there again p d.again_is))))
    difference_marked (Swapped frame p later) d = due_marked over p frame (Some later) (there frame d.other d.other_is)
    difference_marked (Lost frame p) d = due_marked over p frame None (there frame d.other d.other_is)

  pub parting_marked : (rows : List RowSeen) → ShowsDelivery c lines pid rows → has_fault_row rows ≡ true
  parting_marked rows shows =
      let d = shows.shows in
      ap has_fault_row shows.are_its_rows
      ∙ marked_behind (beside_rows c lines shows.cert shows.made (own_stays c shows.session) shows.difference) shows.shown
      (ap has_fault_row d.are_its_rows ∙ difference_marked d.session d.is_session d.numbers d.are_its_stays d.difference d.is_difference)
