-- What happened to the client of a session.
use Rattle.std.specs.Prelude.{ℕ, Bool, true, false, ◌||◌, List, [], ◌++◌, flat_map, length, Option, Some, None, is_none, option_to_list, if◌then◌else◌, slice_get}
use Rattle.std.specs.Option.{option_map, option_and_then}
use Rattle.std.specs.Str.{bytes_eq}
use Rattle.aud_tap.specs.declared.records.StreamRec.{StreamRec}
use Rattle.aud_node.specs.Cluster.{Cluster}
use Rattle.aud_node.specs.Lists.{numbers_from}
use Rattle.aud_node.specs.Stream.{Text, position}
use Rattle.aud_client.specs.Replies.{is_this}
use Rattle.aud_client.specs.Received.{stay_names_pid}
use Rattle.aud_client.specs.StaySeen.{AskedSeen, StaySeen}
use Rattle.aud_input.specs.TapLines.{TapLines}
use Rattle.aud_rows.specs.declared.row.Role.TheVariants as role
use Rattle.aud_rows.specs.EndRows.{lost_row}
use Rattle.aud_rows.specs.Seen.{RowSeen, SaysSeen}
use Rattle.aud_rows.specs.Seen as says
use Rattle.aud_rows.specs.StayRows.{ask_row, frame_row, reply_row, stays_at}
use Rattle.aud_explanation.specs.declared.event.ClientEvent.{ClientEvent}
use Rattle.aud_explanation.specs.declared.event.Happens.{Happens}
use Rattle.aud_explanation.specs.declared.event.Happens.TheVariants.{Asks, Reply, Refused, Got, Lost}
use Rattle.aud_findings.specs.InOrder.{in_order}
use Rattle.aud_findings.specs.Runs.{joined_events}

-- ---- what a record of a stay tells of a session

-- a client asked for the session with this pid
abbrev pub is_asked : Text → Option AskedSeen → Bool
is_asked pid None = false
is_asked pid (Some asked) = bytes_eq asked.pid pid

-- what came in the stay may be of the session: its answer names the session, or none came
abbrev pub may_be_of : Text → StaySeen → Bool
may_be_of pid stay = is_none stay.reply || stay_names_pid pid stay

-- what the answer is, where the stay asked for the session or didn't, and the answer names it or doesn't
abbrev pub answered : Bool → Bool → Option Happens
answered asked true = Some Reply
answered true false = Some Refused
answered false false = None

-- what happened to the session's client where a record of a stay says this, and the stay asked for the session or
-- didn't: it asked to go on after the entry of an offset; it was answered; it received an entry; it lost the connection
abbrev pub happens_of : List StreamRec → Text → Bool → SaysSeen → Option Happens
happens_of stream pid asked (says.Asks conn other off) = if asked then Some (Asks (option_and_then (position stream) off)) else None
happens_of stream pid asked (says.Reply conn sid named) = answered asked (is_this pid named)
happens_of stream pid asked (says.Got conn at off) = Some (Got at at)
happens_of stream pid asked (says.Lost conn) = Some Lost
happens_of stream pid asked _ = None

-- what happened in the record of a row, on the row's line
abbrev pub event_of : List StreamRec → Text → Bool → RowSeen → Option ClientEvent
event_of stream pid asked row =
    option_map (λ happens. record { first = row.line; last = row.line; happens = happens }) (happens_of stream pid asked row.says)

-- the same, if there is a row
abbrev pub row_events : List StreamRec → Text → Bool → Option RowSeen → List ClientEvent
row_events stream pid asked row = option_to_list (option_and_then (event_of stream pid asked) row)

-- ---- stays

-- what happened in the record of this row of the stay
abbrev pub stay_row_events : List StreamRec → Text → StaySeen → Option RowSeen → List ClientEvent
stay_row_events stream pid stay row = row_events stream pid (is_asked pid stay.asked) row

-- the entries that the client received in the stay, which has this number in the client's tap at this place
abbrev pub frame_events : Cluster → List TapLines → ℕ → Text → ℕ → StaySeen → List ClientEvent
frame_events c lines place pid number stay =
    flat_map (λ frame. stay_row_events c.stream pid stay (frame_row c lines place number frame role.Later)) (numbers_from 0 (length stay.frames))

-- the entries that the client received in the stay, and the loss of the connection, where they may be of the session
abbrev pub later_events : Cluster → List TapLines → ℕ → Text → ℕ → StaySeen → List ClientEvent
later_events c lines place pid number stay =
    if may_be_of pid stay
    then frame_events c lines place pid number stay ++ stay_row_events c.stream pid stay (lost_row c lines place number role.Later)
    else []

-- what happened in the stay, if there is one: what was asked, the answer, the entries, the loss of the connection
abbrev pub events_in : Cluster → List TapLines → ℕ → Text → ℕ → Option StaySeen → List ClientEvent
events_in c lines place pid number None = []
events_in c lines place pid number (Some stay) =
    stay_row_events c.stream pid stay (ask_row c lines place number role.Ask)
    ++ (stay_row_events c.stream pid stay (reply_row c lines place number role.Reply)
    ++ later_events c lines place pid number stay)

-- what happened in the stays with these numbers, stay after stay
abbrev pub events_of_stays : Cluster → List TapLines → ℕ → Text → List ℕ → List ClientEvent
events_of_stays c lines place pid numbers = flat_map (λ number. events_in c lines place pid number (slice_get (stays_at c place) number)) numbers

-- ---- the timeline

abbrev pub first_line : ClientEvent → ℕ
first_line event = event.first

-- what happened in the stays with these numbers of the client's tap at this place, to the client of the session with
-- this pid: in the order of the lines, and each joined to the one before where it goes on with that
abbrev pub client_events : Cluster → List TapLines → ℕ → Text → List ℕ → List ClientEvent
client_events c lines place pid numbers = joined_events (in_order first_line (events_of_stays c lines place pid numbers))
