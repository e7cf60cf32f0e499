use Rattle.std.proofs.Common.{◌≡◌, ◌<◌, ◌+◌, ◌∙◌, ℕ, suc, Bool, true, false, List, Option, Some, None, ap, arith, cond, drop, get_or, length, slice_get, sym}
use Rattle.std.proofs.lemmas.List.{at_drop_more}
use Rattle.aud_base.proofs.Lists.{got}
use Rattle.aud_session_facts.specs.declared.place.RecordPlace.{RecordPlace}
use Rattle.aud_causes.specs.declared.cause.Cause.TheVariants.{NodeNotTapped}
use Rattle.aud_causes.specs.Turns.{is_untapped, not_tapped}
use Rattle.aud_causes.proofs.turns.not_tapped.Goals as goal

-- the turn with this number, and those after it
step : (broken : List Bool) (begins : List (Option RecordPlace)) (turn : ℕ) (untapped : Bool) → turn < length begins
    → is_untapped (get_or begins turn None) (slice_get broken turn) ≡ untapped
    → cond untapped (Some (NodeNotTapped turn)) (not_tapped broken (turn + 1) (drop (turn + 1) begins)) ≡ not_tapped broken turn (drop turn begins)
step broken begins turn untapped within is =
    let next : suc turn ≡ turn + 1 = omega arith in
    sym
    (at_drop_more (not_tapped broken turn) begins turn None within
    ∙ (λ i. cond (is i) (Some (NodeNotTapped turn)) (not_tapped broken (next i) (drop (turn + 1) begins))))

pub returns-then-is_untapped : goal.returns-then-is_untapped
returns-then-is_untapped c =
    let broken = c.args.broken.now in
    let begins = c.args.begins.now in
    let turn = c.loop-turn.turn in
    let untapped = c.is_untapped.ensures ∙ ap (is_untapped (get_or begins turn None)) (got broken turn c.get.result c.get.ensures.lookup.3) in
    step broken begins turn true c.loop-turn-test.true (sym untapped ∙ c.if-is_untapped.true) ∙ c.loop-turn.invariant

pub loop-turn-preserved : goal.loop-turn-preserved
loop-turn-preserved c =
    let broken = c.args.broken.now in
    let begins = c.args.begins.now in
    let turn = c.loop-turn.turn in
    let untapped = c.is_untapped.ensures ∙ ap (is_untapped (get_or begins turn None)) (got broken turn c.get.result c.get.ensures.lookup.3) in
    step broken begins turn false c.loop-turn-test.true (sym untapped ∙ c.if-is_untapped.false) ∙ c.loop-turn.invariant
