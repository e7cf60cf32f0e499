use Rattle.std.proofs.Common.{refl, ap, sym, subst, ◌∙◌, IsSome}
use Rattle.std.proofs.lemmas.Result.{on_ok_weaker}
use Rattle.aud_rooms.specs.Assigned.{with_left}
use Rattle.aud_rooms.specs.Private.Building.{AreKept, assigned_of}
use Rattle.aud_rooms.proofs.Kept.{kept_put, assigned_left, continues_some, assigned_absent}
use Rattle.aud_rooms.proofs.building.Building.leave.Goals as goal

pub invariant_of-self : goal.invariant_of-self
invariant_of-self c = subst (λ m. AreKept c.self.inside.low c.self.inside.covered m.entries) (sym c.get_mut.follows.holds-at-none) c.self.invariant

pub invariant_of-self-2 : goal.invariant_of-self-2
invariant_of-self-2 c =
    let at = c.self.inside in
    let found = c.in-Some.ensures.value in
    let kept = c.self.invariant in
    kept_put at.low at.covered at.rooms.entries at.rooms.entries (c.get_mut.follows.lender c.shut.new.self).entries refl c.args.room.now c.shut.new.self
    (((c.get_mut.follows.holds c.shut.new.self).3 (subst (λ o. IsSome o) found refl)).0) kept
    (continues_some at.low at.covered _ c.in-Some.holding.now c.shut.new.self found (c.shut.ensures.continues at.low (kept.apart c.args.room.now c.in-Some.holding.now (sym found))))

pub returns-in_default : goal.returns-in_default
returns-in_default c =
    let at = c.self.inside in
    ap (λ m. assigned_of at.low at.covered m.entries) c.get_mut.follows.holds-at-none
    ∙ assigned_absent at.low at.covered at.rooms.entries c.args.room.now c.in_default.ensures.value
    ∙ ap (with_left c.args.room.now) c.self.view_is

pub returns : goal.returns
returns c =
    let at = c.self.inside in
    let found = c.in-Some.ensures.value in
    let kept = c.self.invariant in
    on_ok_weaker c.shut.result (λ left.
    assigned_left at.low at.covered at.rooms.entries at.rooms.entries (c.get_mut.follows.lender c.shut.new.self).entries refl c.args.room.now c.shut.new.self
    (((c.get_mut.follows.holds c.shut.new.self).3 (subst (λ o. IsSome o) found refl)).0) kept
    (continues_some at.low at.covered _ c.in-Some.holding.now c.shut.new.self found (c.shut.ensures.continues at.low (kept.apart c.args.room.now c.in-Some.holding.now (sym found))))
    left
    ∙ ap (with_left c.args.room.now) c.self.view_is)
    c.shut.ensures.left
