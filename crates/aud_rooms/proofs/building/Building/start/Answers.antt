use Rattle.std.proofs.Common.{[], None, ◌∙◌, refl, ap, arith}
use Rattle.aud_rooms.specs.Private.Times.{is_held_now}
use Rattle.aud_rooms.proofs.Kept.{kept_put, assigned_joined, continues_none, kept_none, starts}
use Rattle.aud_rooms.proofs.building.Building.start.Goals as goal

pub invariant_of-result : goal.invariant_of-result
invariant_of-result c =
    let birth = c.args.birth in
    kept_put birth birth [] c.new-rooms.result.entries c.insert.new.self.entries c.new-rooms.ensures.empty c.args.sid.now c.new.result c.in_ok-insert.ensures.updates.0
    (kept_none birth) (continues_none birth birth None c.new.result (omega arith) refl c.new.ensures)

pub returns : goal.returns
returns c =
    let birth = c.args.birth in
    assigned_joined birth birth [] c.new-rooms.result.entries c.insert.new.self.entries c.new-rooms.ensures.empty c.args.sid.now c.new.result c.in_ok-insert.ensures.updates.0
    (kept_none birth) (continues_none birth birth None c.new.result (omega arith) refl c.new.ensures) (ap is_held_now c.new.ensures)
    ∙ starts birth c.args.sid.now
