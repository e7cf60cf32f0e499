use Rattle.std.proofs.Common.{◌≡◌, drop, map}
use Rattle.aud_rows.specs.Seen.{row_seen}
use Rattle.aud_findings.specs.ClientShown.{fault_conn}
use Rattle.aud_findings.proofs.outcome.fault_conn.Given as goal

-- at none of the rows so far the fault shows
abbrev pub invariant-loop-row : goal.invariant-loop-row
invariant-loop-row l = fault_conn (map row_seen (drop l.row-index l.rows)) ≡ fault_conn (map row_seen l.rows)
