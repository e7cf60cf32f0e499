use Rattle.aud_client.specs.Private.Kept.{with_part}
use Rattle.aud_client.proofs.Kept.{changed_at}
use Rattle.aud_client.proofs.stays.Stays.note.Goals as goal

pub returns-in-Some-clause-places : goal.returns-in-Some-clause-places
returns-in-Some-clause-places c = λ t at.
    changed_at c.add.result c.args.self.now.places.items c.args.place c.in-Some.places.now c.add.new.self t (λ u. with_part u c.args.number c.args.part)
    c.in-Some.ensures.item.3.0 c.in-Some.ensures.item.1 at c.add.ensures
