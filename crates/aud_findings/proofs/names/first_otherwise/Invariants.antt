use Rattle.std.proofs.Common.{◌≡◌, drop}
use Rattle.aud_rows.specs.StayRows.{stays_at}
use Rattle.aud_findings.specs.ShowsNames.{first_otherwise}
use Rattle.aud_findings.proofs.names.first_otherwise.Given as goal

-- none of the stays so far is named otherwise
abbrev pub invariant-loop-number : goal.invariant-loop-number
invariant-loop-number l =
    first_otherwise (record { pid = l.pid; sid = l.opened.sid.now; nsp = l.opened.nsp.now }) (stays_at l.recording l.place) (drop l.number-index l.numbers)
    ≡ first_otherwise (record { pid = l.pid; sid = l.opened.sid.now; nsp = l.opened.nsp.now }) (stays_at l.recording l.place) l.numbers
