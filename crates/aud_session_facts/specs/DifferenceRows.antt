-- The rows that show where what was received first parts from what was due.
use Rattle.std.specs.Prelude.{ℕ, List, [], Option, Some, None}
use Rattle.std.specs.Option.{option_and_then}
use Rattle.aud_check.specs.declared.difference.Difference.{Difference}
use Rattle.aud_check.specs.declared.difference.Difference.TheVariants.{Extra, Doubled, Swapped, Lost}
use Rattle.aud_rows.specs.declared.row.Role.TheVariants.{Fault, Earlier, Later}
use Rattle.aud_rows.specs.Seen.{RowSeen}
use Rattle.aud_session_facts.specs.RowLists.{row_and}
use Rattle.aud_session_facts.specs.SessionRows.{Session, asked_row, entry_row, got_row, reached_row}

-- the entry, where it was first reached, the frame at which they part, and a later frame, if there is any
abbrev pub due_rows : Session → ℕ → ℕ → Option ℕ → List RowSeen
due_rows s position frame later =
    row_and (entry_row s position) (row_and (reached_row s position) (row_and (got_row s frame Fault)
    (row_and (option_and_then (λ l. got_row s l Later) later) [])))

-- the entry, its first frame, what was asked before the second one, and that
abbrev pub doubled_rows : Session → ℕ → ℕ → ℕ → List RowSeen
doubled_rows s position first again =
    row_and (entry_row s position) (row_and (got_row s first Earlier) (row_and (asked_row s again) (row_and (got_row s again Fault) [])))

-- the rows that show the difference
abbrev pub difference_rows : Session → Difference → List RowSeen
difference_rows s (Extra frame position) = due_rows s position frame None
difference_rows s (Doubled first again position) = doubled_rows s position first again
difference_rows s (Swapped frame due later) = due_rows s due frame (Some later)
difference_rows s (Lost frame due) = due_rows s due frame None
