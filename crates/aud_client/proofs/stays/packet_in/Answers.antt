use Rattle.std.proofs.Common.{ap, ◌∙◌}
use Rattle.aud_node.specs.Recoverable.{is_event}
use Rattle.aud_node.proofs.KnownLemmas.{sent_alone}
use Rattle.aud_client.specs.Seen.{packet_seen}
use Rattle.aud_client.specs.Stays.{packet_in}
use Rattle.aud_client.proofs.stays.packet_in.Goals as goal

pub returns-in-Known-clause-known : goal.returns-in-Known-clause-known
returns-in-Known-clause-known c = λ _.
    ap (λ p. is_event (packet_in (packet_seen p)).kind) c.in-Known.is ∙ (sent_alone c.in-Known.field-0.event.now c.in-Known.field-0.sent_alone).kind_is
