use Rattle.std.proofs.Common.{◌≡◌, Some, sym, ap, ◌∙◌, subst}
use Rattle.std.specs.Option.{option_map}
use Rattle.aud_node.specs.Cluster.{Cluster, node_log}
use Rattle.aud_rows.specs.Seen.{says_seen}
use Rattle.aud_rows.specs.NodeSays.{node_says_at}
use Rattle.aud_rows.proofs.TrueRows.{row_is_true, node_says_it}
use Rattle.aud_rows.proofs.sheet.Sheet.node_row.Goals as goal

pub returns-clause-truth : goal.returns-clause-truth
returns-clause-truth c =
    let says = says_seen c.in_ok-says.says in
    let said = subst (λ (k : Cluster). node_says_at k.stream (node_log k c.args.place) c.args.number ≡ Some says) c.logs.ensures
    (sym c.node_says_at.ensures ∙ ap (option_map says_seen) c.in_ok-says.was) in
    row_is_true _ _ c.args.place c.args.number c.args.role says _ c.row_of.ensures
    (node_says_it c.args.self.now.recording.now c.args.place c.args.number says said)
