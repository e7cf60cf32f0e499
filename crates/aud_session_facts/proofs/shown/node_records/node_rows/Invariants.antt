use Rattle.std.proofs.Common.{◌≡◌, map, take}
use Rattle.aud_rows.specs.Seen.{row_seen}
use Rattle.aud_session_facts.specs.NodeRows.{node_rows}
use Rattle.aud_session_facts.specs.RowLists.{AreTrueRows}
use Rattle.aud_session_facts.proofs.shown.node_records.node_rows.Given as goal

-- the rows of the records so far, and they are true
abbrev pub invariant-loop-shown : goal.invariant-loop-shown
invariant-loop-shown l =
    (map row_seen l.rows.items ≡ node_rows l.sheet.recording.now l.sheet.lines.now (take l.shown-index l.records))
    × AreTrueRows l.sheet.recording.now l.sheet.lines.now l.rows.items
