-- Of a recovery that was asked for where it doesn't fit what had come, the row of what was asked is there.
use Rattle.std.proofs.Common.{◌≡◌, true, List, ap, ◌∙◌}
use Rattle.aud_node.specs.Cluster.{Cluster}
use Rattle.aud_node.specs.Stream.{Text}
use Rattle.aud_input.specs.TapLines.{TapLines}
use Rattle.aud_rows.specs.declared.row.Role.TheVariants.{Fault}
use Rattle.aud_rows.specs.Seen.{RowSeen}
use Rattle.aud_session_facts.specs.SessionRows.{Session, ask_of_stay}
use Rattle.aud_session_facts.specs.ShowsWindow.{ShowsWindow}
use Rattle.aud_session_facts.specs.WindowRows.{before_row}
use Rattle.aud_laws.specs.FaultRows.{KnowsEachRecord, has_fault_row}
use Rattle.aud_laws.proofs.FaultRow.Frames.{recovered_marked}
use Rattle.aud_laws.proofs.FaultRow.Rows.{marked_after, marked_and}

pub window_marked : (c : Cluster) (lines : List TapLines) → KnowsEachRecord c.taps lines → (pid : Text) (rows : List RowSeen) → ShowsWindow c lines pid rows
    → has_fault_row rows ≡ true
window_marked c lines known pid rows shows =
    let s : Session = record { c = c; lines = lines; turns = shows.session.turns; client = shows.session.client; numbers = shows.numbers } in
    let w = shows.is_window in
    let there = recovered_marked c lines known pid shows.session shows.is_session shows.numbers shows.are_its_stays shows.session.turns shows.window.stay w.stay w.is_there w.is_recovered in
    ap has_fault_row shows.are_its_rows ∙ marked_after (before_row s shows.window.why) _ (marked_and (ask_of_stay s shows.window.stay Fault) _ there)
