use Rattle.aud_client.specs.Seen.{packet_seen}
use Rattle.aud_client.specs.Private.Kept.{grown}
use Rattle.aud_client.proofs.Kept.{changed_at}
use Rattle.aud_client.proofs.stays.Stays.add.Goals as goal

pub returns-in-Some-clause-stays : goal.returns-in-Some-clause-stays
returns-in-Some-clause-stays c = λ s at.
    changed_at c.add.result c.args.self.now.stays.items c.args.place c.in-Some.stay.now c.add.new.self s (λ t. grown c.args.stream.now t (packet_seen c.args.packet))
    c.in-Some.ensures.item.3.0 c.in-Some.ensures.item.1 at c.add.ensures.stay
