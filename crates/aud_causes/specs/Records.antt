-- The lines of the records that show a cause.
use Rattle.std.specs.Prelude.{ℕ, List, flat_map, Option, Some, None, option_to_list, slice_get}
use Rattle.std.specs.Option.{option_map, option_and_then}
use Rattle.aud_node.specs.Cluster.{Cluster}
use Rattle.aud_input.specs.TapLines.{TapLines}
use Rattle.aud_rows.specs.declared.row.Role.TheVariants.{Fault}
use Rattle.aud_rows.specs.Seen.{RowSeen}
use Rattle.aud_rows.specs.declared.client_places.ClientPlaces.{ClientPlaces}
use Rattle.aud_rows.specs.Rows.{node_row}
use Rattle.aud_rows.specs.StayRows.{ask_row, first_row, frame_row, reply_row, stays_at}
use Rattle.aud_rows.specs.EndRows.{bad_row}
use Rattle.aud_session_facts.specs.declared.shown.frame_place.FramePlace.{FramePlace}
use Rattle.aud_session_facts.specs.FramePlaces.{frame_at}
use Rattle.aud_causes.specs.declared.lines.RecordAt.{RecordAt}
use Rattle.aud_causes.specs.declared.lines.RecordAt.TheVariants.{Node, Got, Ask, Reply, First, Bad}

-- the row of a record of the client's tap at this place, where these are the numbers of the session's stays there
abbrev pub client_row : Cluster → List TapLines → ℕ → List ℕ → RecordAt → Option RowSeen
client_row c lines client numbers (Node place) = node_row c lines place.node place.number Fault
client_row c lines client numbers (Got frame) =
    option_and_then (λ (at : FramePlace). frame_row c lines client at.stay at.frame Fault) (frame_at (stays_at c client) numbers frame)
client_row c lines client numbers (Ask stay) = option_and_then (λ number. ask_row c lines client number Fault) (slice_get numbers stay)
client_row c lines client numbers (Reply stay) = option_and_then (λ number. reply_row c lines client number Fault) (slice_get numbers stay)
client_row c lines client numbers (First number) = first_row c lines client number Fault
client_row c lines client numbers Bad = bad_row c lines client Fault

-- the row of a record, where this is the place of the client's tap; of a node's alone, where none is given
abbrev pub record_row : Cluster → List TapLines → Option ℕ → List ℕ → RecordAt → Option RowSeen
record_row c lines (Some client) numbers at = client_row c lines client numbers at
record_row c lines None numbers (Node place) = node_row c lines place.node place.number Fault
record_row c lines None numbers _ = None

-- the place of the tap, if there is one
abbrev pub place_of : Option ClientPlaces → Option ℕ
place_of tap = option_map (λ (t : ClientPlaces). t.place) tap

-- the line of the record
abbrev pub line_at : Cluster → List TapLines → Option ℕ → List ℕ → RecordAt → Option ℕ
line_at c lines client numbers at = option_map (λ (r : RowSeen). r.line) (record_row c lines client numbers at)

-- the lines of these, of those that are known
abbrev pub lines_at : Cluster → List TapLines → Option ℕ → List ℕ → List RecordAt → List ℕ
lines_at c lines client numbers records = flat_map (λ at. option_to_list (line_at c lines client numbers at)) records
