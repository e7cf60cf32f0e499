use Rattle.std.proofs.Common.{◌∙◌, Some, ap, slice_get}
use Rattle.aud_base.proofs.Lists.{got}
use Rattle.aud_findings.proofs.Nodes.{client_told}
use Rattle.aud_findings.proofs.prepared.Prepared.tap.Goals as goal

pub returns-in-Some-Client-clause-is_of : goal.returns-in-Some-Client-clause-is_of
returns-in-Some-Client-clause-is_of c k of =
    let read =
    client_told k c.args.self.now c.args.place c.in-Some-Client.field-0.now c.in-Some-Client.places c.in-Some-Client.field-0-1 of
    (got c.deref.result.now c.args.place (Some c.in-Some-Client.field-0) c.in-Some-Client.ensures.lookup.3 ∙ ap (λ taps. slice_get taps c.args.place) c.deref.ensures.value) c.in-Some-Client.field-0-is in
    (read.are_of, read.place_is)
