use Rattle.std.proofs.Common.{subst}
use Rattle.std.specs.List.{AllZip}
use Rattle.aud_reader.specs.Bundle.{Reading}
use Rattle.aud_reader.specs.Private.OwnRecords.{AreOfLines}
use Rattle.aud_reader.proofs.bundle.BundleReader.lines_in_parts.Goals as goal

pub join-requires-clause-own : goal.join-requires-clause-own
join-requires-clause-own g c =
    subst (λ (s : Reading). AllZip (λ part records. AreOfLines s.taps part.now records.items) c.as_slice-parts.result.now c.in-Ok-own_records_of.own.items) c.self.view_is c.in-Ok-own_records_of.ensures
