use Rattle.std.proofs.Common.{◌≡◌, ℕ, ◌+◌, ◌-◌, cond, Some, sym, ap, ◌∙◌, arith, subst}
use Rattle.std.specs.Str.{bytes_eq}
use Rattle.aud_node.specs.Private.OffsetIndex.{kept_position}
use Rattle.aud_node.proofs.PositionLemmas.{HoldsAfter, HoldsAfter-step, HoldsAfter-all}
use Rattle.aud_node.proofs.offset_map.OffsetMap.build.Goals as goal

pub loop-i-preserved : goal.loop-i-preserved
loop-i-preserved c =
    let e = c.at.result.now in
    HoldsAfter-step c.args.entries.now c.loop-i.i e c.loop-i.offsets c.mark.new.self (omega arith) (omega arith) c.at.ensures.item c.loop-i.invariant
    (λ q. c.in_ok-mark.ensures.positions q ∙ ap (λ o. cond (bytes_eq o q) (Some (c.loop-i.i - 1 + 1)) (kept_position c.loop-i.offsets q)) (c.as_str.ensures ∙ c.offset.ensures))
    c.in_ok-mark.ensures.was_distinct
    (λ distinct. ap (kept_position c.loop-i.offsets) (sym (c.as_str.ensures ∙ c.offset.ensures)) ∙ c.in_ok-mark.ensures.was_new distinct)

pub returns : goal.returns
returns c =
    let none : c.loop-i.i ≡ 0 = omega arith in
    let P : ℕ → Type 0 = λ n. HoldsAfter c.args.entries.now n c.loop-i.offsets in
    HoldsAfter-all c.args.entries.now c.loop-i.offsets (subst P none c.loop-i.invariant)
