-- The rows that show that an event came with another content than its entry's.
use Rattle.std.specs.Prelude.{List, []}
use Rattle.aud_check.specs.declared.content.Altered.{Altered}
use Rattle.aud_rows.specs.declared.row.Role.TheVariants.{Fault}
use Rattle.aud_rows.specs.Seen.{RowSeen}
use Rattle.aud_session_facts.specs.RowLists.{row_and}
use Rattle.aud_session_facts.specs.SessionRows.{Session, entry_row, got_row}

-- the entry, and the frame that isn't it
abbrev pub altered_rows : Session → Altered → List RowSeen
altered_rows s altered = row_and (entry_row s altered.position) (row_and (got_row s altered.frame Fault) [])
