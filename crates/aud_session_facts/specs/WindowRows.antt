-- The rows that show that a recovery was asked for where it does not fit what had come.
use Rattle.std.specs.Prelude.{List, [], Option, None}
use Rattle.aud_check.specs.declared.window.BadWindow.{BadWindow}
use Rattle.aud_check.specs.declared.window.Misfit.{Misfit}
use Rattle.aud_check.specs.declared.window.Misfit.TheVariants.{Behind, NotBehind}
use Rattle.aud_rows.specs.declared.row.Role.TheVariants as role
use Rattle.aud_rows.specs.Seen.{RowSeen}
use Rattle.aud_session_facts.specs.RowLists.{row_and}
use Rattle.aud_session_facts.specs.SessionRows.{Session, ask_of_stay, got_row, reply_of_stay}

-- the row of the frame that what was asked is behind
abbrev pub before_row : Session → Misfit → Option RowSeen
before_row s (Behind frame) = got_row s frame role.Earlier
before_row s _ = None

-- the row of the frame that what was asked is not behind
abbrev pub later_row : Session → Misfit → Option RowSeen
later_row s (NotBehind frame) = got_row s frame role.Later
later_row s _ = None

-- the frame before, what was asked, its reply, and the frame after
abbrev pub window_rows : Session → BadWindow → List RowSeen
window_rows s window =
    row_and (before_row s window.why) (row_and (ask_of_stay s window.stay role.Fault) (row_and (reply_of_stay s window.stay role.Reply)
    (row_and (later_row s window.why) [])))
