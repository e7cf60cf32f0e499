-- The rows of a stay of a client's tap.
use Rattle.std.specs.Prelude.{ℕ, List, [], Option, Some, None, slice_get}
use Rattle.std.specs.Option.{option_map, option_and_then, option_or}
use Rattle.aud_tap.specs.declared.records.StreamRec.{StreamRec}
use Rattle.aud_tap.specs.declared.records.ClientRec.{ClientRec}
use Rattle.aud_node.specs.Stream.{entry, offset_of}
use Rattle.aud_node.specs.Cluster.{Cluster}
use Rattle.aud_node.specs.NodeTaps.{client_at}
use Rattle.aud_client.specs.Replies.{ReplySeen}
use Rattle.aud_client.specs.StaySeen.{StaySeen, AskedSeen, FrameSeen}
use Rattle.aud_client.specs.Received.{tap_stays}
use Rattle.aud_client.specs.StayPlaces.{PlacesSeen}
use Rattle.aud_input.specs.TapLines.{TapLines}
use Rattle.aud_rows.specs.declared.row.Role.{Role}
use Rattle.aud_rows.specs.Seen.{RowSeen, Asks, Reply, Got}
use Rattle.aud_rows.specs.ClientPlaces.{places_at}
use Rattle.aud_rows.specs.Rows.{Said, said_row}

-- ---- what the records of a stay say

-- the record of what was asked
abbrev pub ask_said : ℕ → Option ℕ → Option AskedSeen → Option Said
ask_said conn (Some number) (Some asked) = Some (number, Asks conn asked.pid asked.offset)
ask_said conn _ _ = None

-- the record of the reply
abbrev pub reply_said : ℕ → Option ℕ → Option ReplySeen → Option Said
reply_said conn (Some number) (Some reply) = Some (number, Reply conn reply.sid reply.pid)
reply_said conn _ _ = None

-- the record of a frame, with the offset of its entry
abbrev pub frame_said : List StreamRec → ℕ → Option ℕ → Option FrameSeen → Option Said
frame_said stream conn (Some number) (Some frame) = option_map (λ e. (number, Got conn frame.position (offset_of e))) (entry stream frame.position)
frame_said stream conn _ _ = None

-- ---- the stays of a tap

-- the stays
abbrev pub stays_in : List StreamRec → Option (List ClientRec) → List StaySeen
stays_in stream (Some recs) = tap_stays stream recs
stays_in stream None = []

-- the stays of the client's tap at this place
abbrev pub stays_at : Cluster → ℕ → List StaySeen
stays_at c place = stays_in c.stream (client_at c place)

-- what a stay and its records give, if there are both
abbrev pub given_by : (PlacesSeen → StaySeen → Option Said) → Option PlacesSeen → Option StaySeen → Option Said
given_by gives (Some places) (Some stay) = gives places stay
given_by gives _ _ = None

-- what the stay with this number of the tap at this place gives
abbrev pub stay_said : (PlacesSeen → StaySeen → Option Said) → Cluster → ℕ → ℕ → Option Said
stay_said gives c place stay = given_by gives (slice_get (places_at c place) stay) (slice_get (stays_at c place) stay)

-- what it asked
abbrev pub asked_at : Cluster → ℕ → ℕ → Option Said
asked_at c place stay = stay_said (λ places seen. ask_said seen.c places.ask seen.asked) c place stay

-- its reply
abbrev pub replied_at : Cluster → ℕ → ℕ → Option Said
replied_at c place stay = stay_said (λ places seen. reply_said seen.c places.reply seen.reply) c place stay

-- its frame with this number
abbrev pub got_at : Cluster → ℕ → ℕ → ℕ → Option Said
got_at c place stay frame = stay_said (λ places seen. frame_said c.stream seen.c (slice_get places.frames frame) (slice_get seen.frames frame)) c place stay

-- ---- the rows

-- the row of what the stay with this number of the tap at this place asked
abbrev pub ask_row : Cluster → List TapLines → ℕ → ℕ → Role → Option RowSeen
ask_row c lines place stay role = option_and_then (said_row c lines place role) (asked_at c place stay)

-- the row of its reply
abbrev pub reply_row : Cluster → List TapLines → ℕ → ℕ → Role → Option RowSeen
reply_row c lines place stay role = option_and_then (said_row c lines place role) (replied_at c place stay)

-- the row of its frame with this number; frames count from 0
abbrev pub frame_row : Cluster → List TapLines → ℕ → ℕ → ℕ → Role → Option RowSeen
frame_row c lines place stay frame role = option_and_then (said_row c lines place role) (got_at c place stay frame)

-- the row of the first of these that there is: of what it asked, of its reply, of its first frame
abbrev pub first_row : Cluster → List TapLines → ℕ → ℕ → Role → Option RowSeen
first_row c lines place stay role =
    option_or (ask_row c lines place stay role) (option_or (reply_row c lines place stay role) (frame_row c lines place stay 0 role))
