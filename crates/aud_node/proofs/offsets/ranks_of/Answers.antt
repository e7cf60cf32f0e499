use Rattle.std.proofs.Common.{◌+◌, ap, ◌∙◌, sym, subst, take, arith}
use Rattle.aud_tap.specs.Rank.{rank}
use Rattle.aud_node.specs.Private.OffsetIndex.{HoldsRanks, is_past}
use Rattle.aud_node.proofs.RankLemmas.{HoldsRanks-push}
use Rattle.aud_node.proofs.offsets.ranks_of.Goals as goal

pub loop-i-preserved : goal.loop-i-preserved
loop-i-preserved c =
    let entries = c.args.entries.now in
    let ranks = c.loop-i.ranks.items in
    let r = c.rank-rank.result in
    let past = sym (ap (λ xs. is_past xs r) c.as_slice.ensures.value) ∙ sym c.is_past.ensures ∙ c.if-not-is_past.false in
    subst (HoldsRanks (take (c.loop-i.i + 1) entries)) (sym c.in_ok-push.ensures.items)
    (HoldsRanks-push entries ranks c.loop-i.i c.at.result.now r c.loop-i.invariant (omega arith) c.at.ensures.item (c.rank-rank.ensures ∙ ap rank (c.as_str.ensures ∙ c.offset.ensures)) past)
