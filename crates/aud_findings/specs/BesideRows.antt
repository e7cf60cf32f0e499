-- The rows that tell of a difference how it comes to be one: by changes of rooms, or since the node of a turn was behind
-- the one before it.
use Rattle.std.specs.Prelude.{◌-◌, ◌&&◌, ℕ, Bool, true, false, List, [], length, Option, Some, None, if◌then◌else◌, nat_lt, nat_le, slice_get}
use Rattle.std.specs.List.{find}
use Rattle.std.specs.Option.{option_and_then}
use Rattle.aud_tap.specs.declared.records.StreamRec.{StreamRec}
use Rattle.aud_node.specs.Lists.{numbers_from}
use Rattle.aud_node.specs.Cluster.{Cluster}
use Rattle.aud_client.specs.StaySeen.{StaySeen}
use Rattle.aud_cert.specs.Certificate.{CertificateSeen, TurnSeen, turn_at}
use Rattle.aud_maker.specs.Made.{IsMade}
use Rattle.aud_check.specs.declared.difference.Difference.{Difference}
use Rattle.aud_check.specs.declared.difference.Difference.TheVariants.{Extra, Doubled, Swapped, Lost}
use Rattle.aud_input.specs.TapLines.{TapLines}
use Rattle.aud_session_facts.specs.declared.change.RoomChange.{RoomChange}
use Rattle.aud_rows.specs.declared.row.Role.{Role}
use Rattle.aud_rows.specs.declared.row.Role.TheVariants.{Left, Room}
use Rattle.aud_rows.specs.Rows.{node_row}
use Rattle.aud_rows.specs.Seen.{RowSeen}
use Rattle.aud_rows.specs.TurnRows.{begin_row, break_row}
use Rattle.aud_session_facts.specs.Ahead.{ahead_of}
use Rattle.aud_session_facts.specs.RowLists.{row_and}
use Rattle.aud_session_facts.specs.StayTurns.{stay_of_frame, stays_match}
use Rattle.aud_findings.specs.RoomChanges.{left_change, not_due_change, room_change}

-- ---- a node that was behind

-- the one turn had reached the position, and the next began in front of it
abbrev pub is_behind : ℕ → Option TurnSeen → Option TurnSeen → Bool
is_behind p (Some before) (Some next) = nat_le p before.high && nat_lt next.low p
is_behind p _ _ = false

-- so it is of the turn with this number and the one before it
abbrev pub is_behind_at : ℕ → List TurnSeen → ℕ → Bool
is_behind_at p turns number = is_behind p (slice_get turns (number - 1)) (slice_get turns number)

-- the number of the first turn that began behind the one before it, with the position between; turns count from 0
abbrev pub first_behind : ℕ → List TurnSeen → Option ℕ
first_behind p turns = find (is_behind_at p turns) (numbers_from 1 (length turns - 1))

-- the number of the turn that may have been behind where this frame of the session came, with the entry at the position:
-- that of the frame's stay, where the stays match the turns; where they don't, the records don't tell which turn that is,
-- and it is the first that began behind the one before it
abbrev pub turn_looked_at : List StreamRec → List TurnSeen → List StaySeen → ℕ → ℕ → Option ℕ
turn_looked_at stream turns stays frame p =
    if stays_match stream turns stays then Some (stay_of_frame stays 0 frame) else first_behind p turns

-- the rows of the `break` of the one turn, and of the `back` that begins the other
abbrev pub rows_between : Cluster → List TapLines → Option TurnSeen → Option TurnSeen → List RowSeen
rows_between c lines (Some before) (Some turn) = row_and (break_row c lines (turn_at c before)) (row_and (begin_row c lines (turn_at c turn)) [])
rows_between c lines _ _ = []

-- so it is of the turn with this number, and of the last one before it that had reached the position
abbrev pub behind_rows_at : Cluster → List TapLines → List TurnSeen → ℕ → Option ℕ → List RowSeen
behind_rows_at c lines turns p None = []
behind_rows_at c lines turns p (Some number) = rows_between c lines (ahead_of p turns number) (slice_get turns number)

-- the `break` and the `back` between which the node of the frame's turn was behind
abbrev pub behind_rows : Cluster → List TapLines → List TurnSeen → List StaySeen → ℕ → ℕ → List RowSeen
behind_rows c lines turns stays frame p = behind_rows_at c lines turns p (turn_looked_at c.stream turns stays frame p)

-- ---- all of a difference

-- the row of a change of a room, if there is one
abbrev pub change_row : Cluster → List TapLines → Role → Option RoomChange → Option RowSeen
change_row c lines role change = option_and_then (λ (ch : RoomChange). node_row c lines ch.node ch.number role) change

-- of an entry that was not due, the change of rooms by which it was not; of one that was due, that by which it was, and
-- of one that was lost also the leave of that room before the end of the turn; of one that came twice, the `break` and
-- the `back` between which the node was behind by which it came again, where these are the session's stays
abbrev pub beside_rows : (c : Cluster) → List TapLines → (cert : CertificateSeen) → IsMade c cert.pid cert → List StaySeen → Difference → List RowSeen
beside_rows c lines cert made stays (Extra frame position) = row_and (change_row c lines Room (not_due_change c cert made position)) []
beside_rows c lines cert made stays (Doubled first again position) = behind_rows c lines cert.turns stays again position
beside_rows c lines cert made stays (Swapped frame due later) = row_and (change_row c lines Room (room_change c cert true due)) []
beside_rows c lines cert made stays (Lost frame due) =
    row_and (change_row c lines Room (room_change c cert true due)) (row_and (change_row c lines Left (left_change c cert due)) [])
