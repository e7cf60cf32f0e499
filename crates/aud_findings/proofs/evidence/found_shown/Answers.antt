use Rattle.std.proofs.Common.{map, sym}
use Rattle.aud_rows.specs.Seen.{row_seen}
use Rattle.aud_findings.proofs.Shown.{found_told}
use Rattle.aud_findings.proofs.evidence.found_shown.Goals as goal

pub returns-in_ok-finding_rows-in-Some-clause-shown : goal.returns-in_ok-finding_rows-in-Some-clause-shown
returns-in_ok-finding_rows-in-Some-clause-shown c pid known =
    found_told pid c.args.account.now c.args.session.now known c.requires.made c.args.fault.now c.in-Some.found (sym c.in-Some.ensures)
    (map row_seen c.in_ok-finding_rows-in-Some.field-0.items) (c.in_ok-finding_rows-in-Some.ensures.rows c.requires.made)
