use Rattle.std.proofs.Common.{sym, subst}
use Rattle.aud_rooms.specs.Private.Times.{Times, AreApart}
use Rattle.aud_rooms.proofs.Times.{some_at}
use Rattle.aud_rooms.proofs.holding.Holding.push_spans.Goals as goal

pub push_span-requires : goal.push_span-requires
push_span-requires c =
    let apart = subst (λ (t : Times). AreApart 0 t.ended t.since c.args.covered) (sym c.self.view_is) c.requires in
    some_at 0 c.args.covered c.deref-interval-items.result.now c.self.inside.since c.loop-interval.interval-index (record { after = 0; last = 0 })
    (subst (λ is. AreApart 0 is c.self.inside.since c.args.covered) (sym c.deref-interval-items.ensures.value) apart)
    c.loop-interval-test.true
