-- Lists of rows.
use Rattle.std.specs.Prelude.{List, ◌++◌, All, Option, option_to_list}
use Rattle.aud_node.specs.Cluster.{Cluster}
use Rattle.aud_input.specs.TapLines.{TapLines}
use Rattle.aud_rows.specs.declared.row.Row.{Row}
use Rattle.aud_rows.specs.Seen.{RowSeen}
use Rattle.aud_rows.specs.TrueRow.{IsTrueRow}

-- the row, if there is one, before these
abbrev pub row_and : Option RowSeen → List RowSeen → List RowSeen
row_and row rows = option_to_list row ++ rows

-- each of the rows is true
abbrev pub AreTrueRows : Cluster → List TapLines → List Row → Type 0
AreTrueRows c lines rows = All (IsTrueRow c lines) rows
