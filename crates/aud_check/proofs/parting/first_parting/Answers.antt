use Rattle.std.proofs.Common.{◌≡◌, ◌<◌, ◌∙◌, true, length, take, sym, subst, arith, true≢false, bytes_eq}
use Rattle.aud_base.proofs.SameText.{itself_text}
use Rattle.aud_check.proofs.Parts.{same_more, goes_on}
use Rattle.aud_check.proofs.parting.first_parting.Goals as goal

pub returns-then-not-is_same_at : goal.returns-then-not-is_same_at
returns-then-not-is_same_at c =
    record { same_before = c.loop-i.invariant; part = λ same. true≢false (sym (c.is_same_at.ensures.1 same) ∙ c.if-not-is_same_at.true) }

pub loop-i-preserved : goal.loop-i-preserved
loop-i-preserved c =
    let h : c.loop-i.i < length c.args.one.now = omega arith in
    same_more c.args.one.now c.args.other.now c.loop-i.i h (c.is_same_at.ensures.0 c.if-not-is_same_at.false) c.loop-i.invariant

pub returns : goal.returns
returns c =
    let end : c.loop-i.i ≡ length c.args.one.now = omega arith in
    goes_on c.args.one.now c.args.other.now (subst (λ n. take n c.args.one.now ≡ take n c.args.other.now) end c.loop-i.invariant)
    (λ same. true≢false (sym (subst (λ t. bytes_eq c.args.one.now t ≡ true) same (itself_text c.args.one.now)) ∙ sym c.eq.ensures ∙ c.if-eq.false))
