-- When rows show that no node opened a session, or that not exactly one client's tap has it: by the replies that name it.
use Rattle.std.specs.Prelude.{◌≡◌, ℕ, List, flat_map, length, map, Option, Some, None, option_to_list, slice_get}
use Rattle.std.specs.List.{AllZip}
use Rattle.std.specs.Option.{option_and_then}
use Rattle.aud_node.specs.Cluster.{Cluster}
use Rattle.aud_node.specs.Stream.{Text}
use Rattle.aud_client.specs.Replies.{naming_places}
use Rattle.aud_rooms.specs.Turns.{HasNoTurn}
use Rattle.aud_input.specs.TapLines.{TapLines}
use Rattle.aud_rows.specs.declared.row.Role.TheVariants.{Fault}
use Rattle.aud_rows.specs.Seen.{RowSeen}
use Rattle.aud_rows.specs.StayRows.{reply_row}
use Rattle.aud_session_facts.specs.Marks.{turn_marks}
use Rattle.aud_session_facts.specs.NodeRows.{node_rows}
use Rattle.aud_session_facts.specs.RowLists.{row_and}
use Rattle.aud_session_facts.specs.ShowsDifference.{AreNumbersOf}
use Rattle.aud_findings.specs.ChainRecords.{turn_record}

-- ---- a session that not exactly one client's tap has

-- a client's tap, by its place, and the numbers of stays there
pub record NamingSeen : Type 0 where
  pub place : ℕ
  pub numbers : List ℕ

-- the tap stands at this place, and these are the numbers of its stays whose reply names the session
pub record IsNamingTap (c : Cluster) (pid : Text) (place : ℕ) (tap : NamingSeen) : Type 0 where
  pub place_is : tap.place ≡ place
  pub are_its_stays : AreNumbersOf c pid place tap.numbers

-- the rows of the replies of these stays of the tap at the place
abbrev pub replies_at : Cluster → List TapLines → ℕ → List ℕ → List RowSeen
replies_at c lines place numbers = flat_map (λ number. option_to_list (reply_row c lines place number Fault)) numbers

abbrev pub replies_of : Cluster → List TapLines → NamingSeen → List RowSeen
replies_of c lines tap = replies_at c lines tap.place tap.numbers

-- the number of clients' taps with a reply that names the session with this pid isn't 1, and these are the rows of all
-- such replies, tap after tap
pub record ShowsClient (c : Cluster) (lines : List TapLines) (pid : Text) (rows : List RowSeen) : Type 0 where
  pub not_one : length (naming_places c.taps pid) ≡ 1 → ⊥
  pub taps : List NamingSeen
  pub are_its_taps : AllZip (IsNamingTap c pid) (naming_places c.taps pid) taps
  pub are_its_rows : rows ≡ flat_map (replies_of c lines) taps

-- ---- a session that no node opened

-- the row of the reply of the first of these stays
abbrev pub first_row_at : Cluster → List TapLines → ℕ → List ℕ → Option RowSeen
first_row_at c lines place numbers = option_and_then (λ number. reply_row c lines place number Fault) (slice_get numbers 0)

-- the row of the first reply in the tap at the place that names the session
pub record IsFirstReplyOf (c : Cluster) (lines : List TapLines) (pid : Text) (place : ℕ) (row : Option RowSeen) : Type 0 where
  pub numbers : List ℕ
  pub are_its_stays : AreNumbersOf c pid place numbers
  pub is_row : row ≡ first_row_at c lines place numbers

-- the same of the first of these taps
abbrev pub IsFirstReplyIn : Cluster → List TapLines → Text → Option ℕ → Option RowSeen → Type 0
IsFirstReplyIn c lines pid None row = row ≡ None
IsFirstReplyIn c lines pid (Some place) row = IsFirstReplyOf c lines pid place row

-- the row of the first reply that names the session
abbrev pub IsFirstReply : Cluster → List TapLines → Text → Option RowSeen → Type 0
IsFirstReply c lines pid row = IsFirstReplyIn c lines pid (slice_get (naming_places c.taps pid) 0) row

-- no node has an `open` of the session with this pid, and these are the rows of the first reply that names it, and of
-- all node records that begin or end turns of it
pub record ShowsNoLog (c : Cluster) (lines : List TapLines) (pid : Text) (rows : List RowSeen) : Type 0 where
  pub not_opened : HasNoTurn c pid 0
  pub reply : Option RowSeen
  pub is_first : IsFirstReply c lines pid reply
  pub are_its_rows : rows ≡ row_and reply (node_rows c lines (map turn_record (turn_marks c pid)))
