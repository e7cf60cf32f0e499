use Rattle.std.proofs.Common.{◌≡◌, ◌<◌, ℕ, true}
use Rattle.aud_node.specs.Cursors.{cursor_at}
use Rattle.aud_findings.specs.Order.{is_record_in_order}
use Rattle.aud_findings.proofs.order.first_out_of_order.Given as goal

abbrev pub invariant-loop-number : goal.invariant-loop-number
invariant-loop-number l =
    record {
      cursor : l.cursor ≡ cursor_at l.stream l.log.recs l.number;
      before : (n : ℕ) → n < l.number → is_record_in_order l.stream l.log.recs n ≡ true;
    }
