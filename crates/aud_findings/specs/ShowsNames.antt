-- When rows show that a reply names a session otherwise than its `open`.
use Rattle.std.specs.Prelude.{◌≡◌, ◌&&◌, ℕ, Bool, not, true, false, List, [], Option, Some, None, slice_get}
use Rattle.std.specs.List.{find}
use Rattle.aud_tap.specs.declared.records.NodeRec.TheVariants.{Opened}
use Rattle.aud_node.specs.Cluster.{Cluster}
use Rattle.aud_node.specs.Stream.{Text}
use Rattle.aud_rooms.specs.Turns.{Who}
use Rattle.aud_client.specs.StaySeen.{StaySeen}
use Rattle.aud_client.specs.Received.{stay_names_pid}
use Rattle.aud_check.specs.NamedStays.{is_of_session}
use Rattle.aud_session_facts.specs.declared.marks.TurnMark.{TurnMark}
use Rattle.aud_session_facts.specs.declared.marks.Mark.{Mark}
use Rattle.aud_session_facts.specs.declared.marks.Mark.TheVariants as mark
use Rattle.aud_session_facts.specs.Marks.{turn_marks}
use Rattle.aud_session_facts.specs.Places.{record_at}
use Rattle.aud_input.specs.TapLines.{TapLines}
use Rattle.aud_rows.specs.declared.row.Role.TheVariants.{Earlier, Fault}
use Rattle.aud_rows.specs.Rows.{node_row}
use Rattle.aud_rows.specs.Seen.{RowSeen}
use Rattle.aud_rows.specs.StayRows.{reply_row, stays_at}
use Rattle.aud_session_facts.specs.RowLists.{row_and}
use Rattle.aud_session_facts.specs.ShowsDifference.{AreNumbersOf}

-- ---- the `open`

abbrev pub is_open : Mark → Bool
is_open mark.Open = true
is_open _ = false

abbrev pub is_open_mark : TurnMark → Bool
is_open_mark m = is_open m.mark

-- the first record of a node that opens the session
abbrev pub first_open : Cluster → Text → Option TurnMark
first_open c pid = find is_open_mark (turn_marks c pid)

-- it opens the session by these names
pub record IsOpenedAs (c : Cluster) (pid : Text) (opening : TurnMark) (sid nsp : Text) : Type 0 where
  pub is_first : first_open c pid ≡ Some opening
  pub named : record_at c opening.place ≡ Some (Opened pid sid nsp)

-- ---- the stays

-- the stay's reply names the session, and has another sid, or the stay another namespace, than its `open`
abbrev pub is_named_otherwise : Who → StaySeen → Bool
is_named_otherwise who stay = stay_names_pid who.pid stay && not (is_of_session who stay)

-- there is a stay, and its reply names the session otherwise
abbrev pub is_some_otherwise : Who → Option StaySeen → Bool
is_some_otherwise who None = false
is_some_otherwise who (Some stay) = is_named_otherwise who stay

-- the number of the first of these stays whose reply names the session otherwise
abbrev pub first_otherwise : Who → List StaySeen → List ℕ → Option ℕ
first_otherwise who stays numbers = find (λ number. is_some_otherwise who (slice_get stays number)) numbers

-- ---- what shows it

-- the rows of the `open` and of the reply of the stay
abbrev pub names_rows : Cluster → List TapLines → TurnMark → ℕ → ℕ → List RowSeen
names_rows c lines opening place stay =
    row_and (node_row c lines opening.place.node opening.place.number Earlier) (row_and (reply_row c lines place stay Fault) [])

-- a node opened the session with this pid by these names; this stay is the first in the client's tap at the place whose
-- reply names it and has another sid, or is in another namespace; and these are the rows of the `open` and of the reply
pub record ShowsNames (c : Cluster) (lines : List TapLines) (pid : Text) (place : ℕ) (rows : List RowSeen) : Type 0 where
  pub opening : TurnMark
  pub sid : Text
  pub nsp : Text
  pub is_opened : IsOpenedAs c pid opening sid nsp
  pub numbers : List ℕ
  pub are_its_stays : AreNumbersOf c pid place numbers
  pub stay : ℕ
  pub is_first : first_otherwise (record { pid = pid; sid = sid; nsp = nsp }) (stays_at c place) numbers ≡ Some stay
  pub are_its_rows : rows ≡ names_rows c lines opening place stay

-- none of the tap's stays whose reply names the session is named otherwise than by the `open`, if there is one
pub record AreNamedAlike (c : Cluster) (pid : Text) (place : ℕ) : Type 0 where
  pub numbers : List ℕ
  pub are_its_stays : AreNumbersOf c pid place numbers
  pub each : (opening : TurnMark) (sid nsp : Text) → IsOpenedAs c pid opening sid nsp
      → first_otherwise (record { pid = pid; sid = sid; nsp = nsp }) (stays_at c place) numbers ≡ None
