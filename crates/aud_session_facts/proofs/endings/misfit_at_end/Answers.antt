use Rattle.std.proofs.Common.{◌≡◌, Some, List, ℕ, arith, refl, subst}
use Rattle.std.specs.Option.{option_copied}
use Rattle.aud_session_facts.specs.Private.Unended.{IsNext}
use Rattle.aud_tap.specs.declared.records.NodeRec.TheVariants.{Broke, Gone}
use Rattle.aud_base.proofs.SameText.{same_text}
use Rattle.aud_session_facts.specs.Places.{record_at}
use Rattle.aud_session_facts.proofs.Ends.{other-break, after-gone}
use Rattle.aud_session_facts.proofs.endings.misfit_at_end.Goals as goal

pub returns-else-from-number : goal.returns-else-from-number
returns-else-from-number c =
    let at : record_at c.args.logs.now (record { node = c.turn.inside.node; number = c.saturating_sub.result }) ≡ Some (Broke c.args.pid.now c.from.result) =
    grind (arith, c.record_at.ensures, c.in-Some-Broke.ensures, c.in-Some-Broke.field-0-is, c.in-Some-Broke.other-is, c.in-Some-Broke.ended-is, c.as_str.ensures, c.eq.ensures, c.if-eq.true, c.from.ensures, λ (other : List ℕ). same_text other c.args.pid.now) in
    rw (c.first_of.ensures, ← c.turn.view_is)
    (other-break c.args.logs.now c.args.pid.now c.args.number (record { node = c.turn.inside.node; from = c.turn.inside.from; to = c.turn.inside.to }) (record { node = c.turn.inside.node; number = c.saturating_sub.result }) c.from.result
    (rw (← c.turn.view_is) at c.requires.begun) refl c.saturating_sub.ensures at c.if-from-number.false)

pub returns-in-Some : goal.returns-in-Some
returns-in-Some c =
    let at : record_at c.args.logs.now (record { node = c.turn.inside.node; number = c.saturating_sub.result }) ≡ Some (Gone c.args.pid.now) =
    grind (arith, c.record_at.ensures, c.in-Some-Gone.ensures, c.in-Some-Gone.field-0-is, c.in-Some-Gone.other-is, c.if-eq-2.ensures, c.if-eq-2.true, λ (other : List ℕ). same_text other c.args.pid.now) in
    rw c.first_of-in-Some.ensures
    (after-gone c.args.logs.now c.args.pid.now c.args.number (record { node = c.turn.inside.node; from = c.turn.inside.from; to = c.turn.inside.to }) (record { node = c.turn.inside.node; number = c.saturating_sub.result }) c.in-Some.next.now
    (rw (← c.turn.view_is) at c.requires.begun) refl c.saturating_sub.ensures at (subst (λ o. IsNext c.args.logs.now c.args.pid.now c.args.number (option_copied o)) c.in-Some.is c.requires.next))
