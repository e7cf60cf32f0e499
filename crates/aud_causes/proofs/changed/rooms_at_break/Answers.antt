use Rattle.std.proofs.Common.{◌∙◌, map, sym, true, false}
use Rattle.std.specs.Prelude.{nat_eq}
use Rattle.std.specs.Cmp.Lexicographic.{pointwise}
use Rattle.aud_causes.proofs.Told.{by_rooms}
use Rattle.aud_causes.proofs.changed.rooms_at_break.Goals as goal

pub returns-then-not-are_same : goal.returns-then-not-are_same
returns-then-not-are_same c made =
    let same_is =
    c.are_same.ensures
    ∙ (λ i. pointwise nat_eq ((c.as_slice.ensures.value ∙ c.in_ok-came.ensures) i) ((c.as_slice-2.ensures.value ∙ c.in_ok-due.ensures made) i)) in
    sym
    (by_rooms c.args.recording.now made.who made.turns (map (λ stay. stay.now) c.args.stays.now) c.args.facts c.in-Some.replay true false c.in-Some.is
    (sym c.is_replayed.ensures ∙ c.if-not-is_replayed.false)
    (sym same_is ∙ c.if-not-are_same.true))

pub returns : goal.returns
returns c made =
    let same_is =
    c.are_same.ensures
    ∙ (λ i. pointwise nat_eq ((c.as_slice.ensures.value ∙ c.in_ok-came.ensures) i) ((c.as_slice-2.ensures.value ∙ c.in_ok-due.ensures made) i)) in
    sym
    (by_rooms c.args.recording.now made.who made.turns (map (λ stay. stay.now) c.args.stays.now) c.args.facts c.in-Some.replay true true c.in-Some.is
    (sym c.is_replayed.ensures ∙ c.if-not-is_replayed.false)
    (sym same_is ∙ c.if-not-are_same.false))
