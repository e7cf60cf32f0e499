use Rattle.std.proofs.Common.{◌≡◌, ◌∙◌, [], ap, map, option_map, subst, sym}
use Rattle.aud_node.specs.Cluster.{Cluster}
use Rattle.aud_maker.specs.Made.{IsMade}
use Rattle.aud_rows.specs.declared.row.Role.TheVariants.{Room}
use Rattle.aud_rows.specs.Seen.{row_seen}
use Rattle.aud_session_facts.specs.RowLists.{row_and}
use Rattle.aud_findings.specs.BesideRows.{beside_rows, change_row}
use Rattle.aud_findings.specs.RoomChanges.{not_due_change}
use Rattle.aud_findings.proofs.beside.beside.Goals as goal

pub returns-in-Extra-clause-rows : goal.returns-in-Extra-clause-rows
returns-in-Extra-clause-rows c made =
    let here = c.args.sheet.now.recording.now in
    let lines = c.args.sheet.now.lines.now in
    let cert = c.args.cert.now in
    let told : (m : IsMade here cert.pid cert) → c.not_due_change-change.result ≡ not_due_change here cert m c.in-Extra.position =
    subst (λ (k : Cluster). (m : IsMade k cert.pid cert) → c.not_due_change-change.result ≡ not_due_change k cert m c.in-Extra.position) c.logs-logs.ensures c.not_due_change-change.ensures in
    subst (λ d. row_and (option_map row_seen c.change_row.result) [] ≡ beside_rows here lines cert made (map (λ stay. stay.now) c.args.stays.now) d) (sym c.in-Extra.is)
    (ap (λ row. row_and row []) (c.change_row.ensures.row ∙ ap (change_row here lines Room) (told made)))
