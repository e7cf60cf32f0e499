use Rattle.std.proofs.Common.{◌∙◌, sym, ap}
use Rattle.aud_maker.specs.Ended.{are_ended}
use Rattle.aud_maker.specs.Opening.{opening_of}
use Rattle.aud_maker.proofs.FirstFault.{is_chain, not_opened, not_ended, not_swept}
use Rattle.aud_maker.proofs.chain.chain_of.Goals as goal

pub returns-in_default : goal.returns-in_default
returns-in_default c = not_opened _ _ _ c.in_ok-turns.ensures (ap (opening_of c.args.logs.now) (sym c.deref.ensures.value) ∙ c.in_default.ensures)

pub returns-then-not-are_turns_ended : goal.returns-then-not-are_turns_ended
returns-then-not-are_turns_ended c = not_ended _ _ _ c.in_ok-turns.ensures (ap (are_ended c.args.logs.now c.args.pid.now 0) (sym c.deref-2.ensures.value) ∙ sym c.if-not-are_turns_ended.ensures)

pub returns-then-not-are_swept : goal.returns-then-not-are_swept
returns-then-not-are_swept c = not_swept _ _ _ c.in_ok-turns.ensures (rw (← c.requires, ← c.deref-3.ensures.value) (sym c.if-not-are_swept.ensures))

pub returns : goal.returns
returns c =
    is_chain _ _ _ c.in_ok-turns.ensures _ _ (ap (opening_of c.args.logs.now) (sym c.deref.ensures.value) ∙ c.in-Some.ensures)
    (ap (are_ended c.args.logs.now c.args.pid.now 0) (sym c.deref-2.ensures.value) ∙ sym c.if-not-are_turns_ended.ensures)
    (rw (← c.requires, ← c.deref-3.ensures.value) (sym c.if-not-are_swept.ensures))
