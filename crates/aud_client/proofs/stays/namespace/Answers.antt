use Rattle.std.proofs.Common.{sym, ap, ◌∙◌}
use Rattle.aud_node.proofs.KnownLemmas.{sent_alone}
use Rattle.aud_client.specs.Seen.{packet_seen}
use Rattle.aud_client.specs.Stays.{namespace}
use Rattle.aud_client.proofs.stays.namespace.Goals as goal

pub returns-in-Known : goal.returns-in-Known
returns-in-Known c =
    c.as_str.ensures ∙ sym (sent_alone c.in-Known.known.event.now c.in-Known.known.sent_alone).nsp_is ∙ ap (λ p. namespace (packet_seen p)) (sym c.in-Known.is)
