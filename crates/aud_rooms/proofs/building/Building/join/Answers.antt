use Rattle.std.proofs.Common.{refl, ap, sym, subst, ◌∙◌, IsSome}
use Rattle.aud_rooms.specs.Assigned.{with_joined}
use Rattle.aud_rooms.specs.Private.Times.{is_held_now}
use Rattle.aud_rooms.proofs.Kept.{kept_put, assigned_joined, continues_none, continues_some}
use Rattle.aud_rooms.proofs.building.Building.join.Goals as goal

pub invariant_of-self : goal.invariant_of-self
invariant_of-self c =
    let at = c.self.inside in
    let found = c.in-Some.ensures.value in
    let kept = c.self.invariant in
    kept_put at.low at.covered at.rooms.entries at.rooms.entries (c.get_mut.follows.lender c.open.new.self).entries refl c.args.room.now c.open.new.self
    (((c.get_mut.follows.holds c.open.new.self).3 (subst (λ o. IsSome o) found refl)).0) kept
    (continues_some at.low at.covered _ c.in-Some.holding.now c.open.new.self found (c.open.ensures.continues at.low kept.above (kept.apart c.args.room.now c.in-Some.holding.now (sym found))))

pub returns-in-Some : goal.returns-in-Some
returns-in-Some c =
    let at = c.self.inside in
    let found = c.in-Some.ensures.value in
    let kept = c.self.invariant in
    assigned_joined at.low at.covered at.rooms.entries at.rooms.entries (c.get_mut.follows.lender c.open.new.self).entries refl c.args.room.now c.open.new.self
    (((c.get_mut.follows.holds c.open.new.self).3 (subst (λ o. IsSome o) found refl)).0) kept
    (continues_some at.low at.covered _ c.in-Some.holding.now c.open.new.self found (c.open.ensures.continues at.low kept.above (kept.apart c.args.room.now c.in-Some.holding.now (sym found))))
    c.open.ensures.held
    ∙ ap (with_joined c.args.room.now) c.self.view_is

pub invariant_of-self-2 : goal.invariant_of-self-2
invariant_of-self-2 c =
    let at = c.self.inside in
    kept_put at.low at.covered at.rooms.entries c.get_mut.follows.lender-at-none.entries c.insert.new.self.entries (ap (λ m. m.entries) c.get_mut.follows.holds-at-none) c.args.room.now c.new.result
    c.in_ok-insert.ensures.updates.0 c.self.invariant (continues_none at.low at.covered _ c.new.result c.self.invariant.above c.in_default.ensures.value c.new.ensures)

pub returns : goal.returns
returns c =
    let at = c.self.inside in
    assigned_joined at.low at.covered at.rooms.entries c.get_mut.follows.lender-at-none.entries c.insert.new.self.entries (ap (λ m. m.entries) c.get_mut.follows.holds-at-none) c.args.room.now c.new.result
    c.in_ok-insert.ensures.updates.0 c.self.invariant (continues_none at.low at.covered _ c.new.result c.self.invariant.above c.in_default.ensures.value c.new.ensures) (ap is_held_now c.new.ensures)
    ∙ ap (with_joined c.args.room.now) c.self.view_is
