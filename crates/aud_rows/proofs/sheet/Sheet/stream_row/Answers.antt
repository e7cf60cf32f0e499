use Rattle.std.proofs.Common.{◌≡◌, Some, sym, ap, ◌∙◌, ◌-◌, subst}
use Rattle.std.specs.Option.{option_map}
use Rattle.aud_node.specs.Cluster.{Cluster, log_at}
use Rattle.aud_rows.specs.Seen.{says_seen}
use Rattle.aud_rows.specs.StreamSays.{stream_says_at}
use Rattle.aud_rows.specs.Rows.{stream_recs}
use Rattle.aud_rows.proofs.TrueRows.{row_is_true, entry_says_it}
use Rattle.aud_rows.proofs.sheet.Sheet.stream_row.Goals as goal

pub returns-clause-truth : goal.returns-clause-truth
returns-clause-truth c =
    let says = says_seen c.in_ok-says.says in
    let place = c.in_ok-place.place in
    let number = c.args.position - 1 in
    let said = subst (λ (k : Cluster). stream_says_at (stream_recs (log_at k place)) number ≡ Some says) c.logs-logs.ensures
    (sym c.entry_says.ensures ∙ ap (option_map says_seen) c.in_ok-says.was) in
    row_is_true _ _ place number c.args.role says _ c.row_of.ensures
    (entry_says_it c.args.self.now.recording.now place number says said)
