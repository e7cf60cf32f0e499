use Rattle.aud_laws.proofs.FaultRow.Known.{read_are_known, named_are_known}
use Rattle.aud_laws.proofs.fault_rows.records_have_kept_lines.Goals as goal

pub returns : goal.returns
returns c =
    record {
      read = read_are_known c.records_have_their_lines.ensures c.lines_of_files.ensures;
      named = named_are_known c.lines_are_named.ensures;
    }
