use Rattle.aud_laws.proofs.FaultRow.Shown.{fault_row_is_there, tail_row_is_there}
use Rattle.aud_laws.proofs.fault_rows.fault_has_its_row.Goals as goal

pub returns : goal.returns
returns c = record { row = fault_row_is_there c.verdict_is_found.ensures; tail = tail_row_is_there }
