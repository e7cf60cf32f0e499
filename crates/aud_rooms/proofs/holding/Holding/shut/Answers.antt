use Rattle.aud_rooms.proofs.Times.{shut_used, shut_unused}
use Rattle.aud_rooms.proofs.holding.Holding.shut.Goals as goal
use Rattle.aud_rooms.proofs.holding.Holding.shut.Goals.{then-after-covered+in_ok-push, else-after-covered}

pub returns-clause-continues : goal.returns-clause-continues
returns-clause-continues c =
    λ low apart.
    elim c.if-after-covered.branch [
      | then-after-covered+in_ok-push w ↦
          rw w.self-inside-is (shut_used low c.args.covered c.in-Some.after c.args.self.now c.self.inside.ended.items _ c.self.inside.since c.self.view_is c.in-Some.is w.if-after-covered.true w.in_ok-push.ensures.items apart)
      | else-after-covered w ↦
          rw w.self-inside-is (shut_unused low c.args.covered c.in-Some.after c.args.self.now c.self.inside.ended.items c.self.inside.since c.self.view_is c.in-Some.is w.if-after-covered.false apart)
    ]
