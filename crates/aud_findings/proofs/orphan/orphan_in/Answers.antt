use Rattle.std.proofs.Common.{◌∙◌, Some, ap, slice_get}
use Rattle.aud_base.proofs.Lists.{got}
use Rattle.aud_findings.proofs.Nodes.{client_told}
use Rattle.aud_findings.proofs.orphan.orphan_in.Goals as goal

pub returns-in-Some-Client : goal.returns-in-Some-Client
returns-in-Some-Client c =
    (client_told c.args.recording.now c.args.prepared.now c.args.place c.in-Some-Client.field-0.now c.in-Some-Client.field-0-0 c.in-Some-Client.orphan c.requires
    (got c.deref.result.now c.args.place (Some c.in-Some-Client.field-0) c.in-Some-Client.ensures.lookup.3 ∙ ap (λ taps. slice_get taps c.args.place) c.deref.ensures.value) c.in-Some-Client.field-0-is).orphan_is
