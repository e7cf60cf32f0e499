use Rattle.std.proofs.Common.{◌≡◌, ◌++◌, map, take}
use Rattle.aud_rows.specs.Seen.{row_seen}
use Rattle.aud_session_facts.specs.RowLists.{AreTrueRows}
use Rattle.aud_findings.specs.Unplaced.{replies_at}
use Rattle.aud_findings.proofs.unplaced.push_replies.Given as goal

-- the rows of the replies so far are added, and all are true where those before are
abbrev pub invariant-loop-number : goal.invariant-loop-number
invariant-loop-number l =
    (map row_seen l.rows.items ≡ map row_seen l.initial.rows.items ++ replies_at l.sheet.recording.now l.sheet.lines.now l.tap.place (take l.number-index l.numbers))
    × (AreTrueRows l.sheet.recording.now l.sheet.lines.now l.initial.rows.items → AreTrueRows l.sheet.recording.now l.sheet.lines.now l.rows.items)
