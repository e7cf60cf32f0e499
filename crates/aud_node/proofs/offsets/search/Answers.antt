use Rattle.std.proofs.Common.{◌≡◌, ◌+◌, suc, ap, ◌∙◌, sym, subst, nat_cmp, arith, Some, Ok, Err}
use Rattle.std.specs.List.Sorted.{IsBinarySearchResult}
use Rattle.std.specs.Str.{bytes_eq}
use Rattle.std.proofs.lemmas.Bool.{not-true, not-false}
use Rattle.std.proofs.lemmas.List.Sorted.{searched}
use Rattle.aud_tap.specs.Rank.{rank}
use Rattle.aud_node.proofs.RankLemmas.{found-by_rank, other-by_rank, none-by_rank, rising}
use Rattle.aud_node.proofs.offsets.search.Goals as goal

pub returns-in_default : goal.returns-in_default
returns-in_default c =
    let ranks = c.args.ranks.now in
    let found : IsBinarySearchResult (λ y. nat_cmp y (rank c.args.off.now)) ranks (Err c.in_default.field-0) =
    subst (λ r. IsBinarySearchResult (λ y. nat_cmp y r) ranks (Err c.in_default.field-0)) c.rank.ensures c.in_default.ensures.position in
    none-by_rank c.args.entries.now ranks c.args.off.now c.in_default.field-0 c.requires found

pub returns-then-ne : goal.returns-then-ne
returns-then-ne c =
    let ranks = c.args.ranks.now in
    let off = c.args.off.now in
    let at = searched ranks c.rank.result (Ok c.in-Ok.i) c.in-Ok.ensures.position (rising ranks c.requires.ascend) in
    let differs = not-true (bytes_eq c.as_str.result.now off) (sym c.ne.ensures ∙ c.if-ne.true) in
    other-by_rank c.args.entries.now ranks off c.in-Ok.i c.at.result.now c.requires c.at.ensures.value (at.1 ∙ c.rank.ensures)
    (ap (λ o. bytes_eq o off) (sym (c.as_str.ensures ∙ c.offset.ensures)) ∙ differs)

pub returns : goal.returns
returns c =
    let off = c.args.off.now in
    let next : c.in-Ok.i + 1 ≡ suc c.in-Ok.i = omega arith in
    let same = not-false (bytes_eq c.as_str.result.now off) (sym c.ne.ensures ∙ c.if-ne.false) in
    ap Some next
    ∙ found-by_rank c.args.entries.now c.args.ranks.now off c.in-Ok.i c.at.result.now c.requires c.at.ensures.value (ap (λ o. bytes_eq o off) (sym (c.as_str.ensures ∙ c.offset.ensures)) ∙ same)
