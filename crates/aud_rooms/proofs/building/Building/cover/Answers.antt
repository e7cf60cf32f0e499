use Rattle.std.proofs.Common.{ap, sym, ◌∙◌, arith}
use Rattle.aud_rooms.specs.Assigned.{covered_upto}
use Rattle.aud_rooms.proofs.Kept.{kept_covered, covers_more, covers_no_more}
use Rattle.aud_rooms.proofs.building.Building.cover.Goals as goal

pub invariant_of-self : goal.invariant_of-self
invariant_of-self c =
    let more = c.if-self-position.true in
    kept_covered c.self.inside.low c.self.inside.covered c.args.position c.self.inside.rooms.entries c.self.invariant (omega arith)

pub returns-then-self-position : goal.returns-then-self-position
returns-then-self-position c =
    let more = c.if-self-position.true in
    covers_more c.self.inside.low c.self.inside.covered c.args.position c.self.inside.rooms.entries c.self.invariant (omega arith)
    ∙ ap (covered_upto c.args.position) c.self.view_is

pub returns-else-self-position : goal.returns-else-self-position
returns-else-self-position c =
    sym c.self.view_is
    ∙ covers_no_more c.self.inside.low c.self.inside.covered c.args.position c.self.inside.rooms.entries c.self.invariant c.if-self-position.false
    ∙ ap (covered_upto c.args.position) c.self.view_is
