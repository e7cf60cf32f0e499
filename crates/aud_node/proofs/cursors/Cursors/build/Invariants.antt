use Rattle.std.proofs.Common.{◌≡◌, suc, map, length, not, ◌==◌, ◌&&◌}
use Rattle.std.specs.List.{list_all}
use Rattle.aud_node.specs.Lists.{numbers_from}
use Rattle.aud_node.specs.Cursors.{cursor_at}
use Rattle.aud_node.proofs.CursorLemmas.{is_in_order_at}
use Rattle.aud_node.proofs.cursors.Cursors.build.Given as goal

abbrev pub invariant-loop-number : goal.invariant-loop-number
invariant-loop-number l = record {
  after_are : l.after.items ≡ map (λ number. cursor_at l.stream l.recs (suc number)) (numbers_from 0 l.number);
  cursor_is : l.cursor ≡ cursor_at l.stream l.recs l.number;
  ordered_is : l.ordered ≡ (not (length l.recs == 0) && list_all (is_in_order_at l.stream l.recs) (numbers_from 0 l.number));
}
