use Rattle.std.proofs.Common.{◌≡◌, flat_map, map, take}
use Rattle.aud_rows.specs.Seen.{row_seen}
use Rattle.aud_session_facts.specs.RowLists.{AreTrueRows}
use Rattle.aud_findings.specs.Unplaced.{replies_of}
use Rattle.aud_findings.proofs.Naming.{named_tap}
use Rattle.aud_findings.proofs.unplaced.client_rows.Given as goal

-- the rows of the taps so far, and they are true
abbrev pub invariant-loop-place : goal.invariant-loop-place
invariant-loop-place l =
    (map row_seen l.rows.items ≡ flat_map (λ place. replies_of l.sheet.recording.now l.sheet.lines.now (named_tap l.sheet.recording.now l.pid place)) (take l.place-index l.place-items))
    × AreTrueRows l.sheet.recording.now l.sheet.lines.now l.rows.items
