use Rattle.std.proofs.Common.{arith}
use Rattle.aud_refusals.proofs.ItemsLemmas.{items_count-list}
use Rattle.aud_refusals.proofs.excess.count_excess.Goals as goal

pub returns-then-count-most : goal.returns-then-count-most
returns-then-count-most c = let count = items_count-list c.args.items.now in grind (arith, count)

pub returns : goal.returns
returns c = let count = items_count-list c.args.items.now in grind (arith, count)
