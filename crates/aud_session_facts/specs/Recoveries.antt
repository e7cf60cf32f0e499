-- The recoveries that clients asked for.
use Rattle.std.specs.Prelude.{ℕ, ◌-◌, Bool, false, not, ◌||◌, List, [], length, flat_map, nat_eq, nat_lt, Option, Some, None, is_some, option_to_list, if◌then◌else◌, slice_get}
use Rattle.std.specs.Option.{option_and_then, option_map, option_map_or}
use Rattle.aud_node.specs.Lists.{numbers_from}
use Rattle.aud_node.specs.Cluster.{Cluster}
use Rattle.aud_client.specs.StaySeen.{AskedSeen, StaySeen}
use Rattle.aud_client.specs.Received.{TranscriptSeen, numbers_naming, stay_names_pid, transcript_at}
use Rattle.aud_session_facts.specs.declared.asked.Recovery.{Recovery}

-- the stays of a client's tap; none where it is no client's
abbrev pub stays_told : Option TranscriptSeen → List StaySeen
stays_told None = []
stays_told (Some transcript) = transcript.stays

-- the stays of the client's tap at the place
abbrev pub stays_at : Cluster → ℕ → List StaySeen
stays_at c place = stays_told (transcript_at c place)

-- the last of these numbers
abbrev pub last_of : List ℕ → Option ℕ
last_of numbers = slice_get numbers (length numbers - 1)

-- there is a stay, and it is of the connection with this number
abbrev pub is_on : ℕ → Option StaySeen → Bool
is_on c None = false
is_on c (Some stay) = nat_eq stay.c c

-- the last one of these stays comes after the one with this number, or is of this connection
abbrev pub is_there_or_later : List StaySeen → ℕ → ℕ → ℕ → Bool
is_there_or_later stays number c last = nat_lt number last || is_on c (slice_get stays last)

-- the client got the session back for which it asked in the stay with this number, where these are the stays of its tap:
-- the stay's reply names it; or the stay has none, and the last of the tap's replies that name it came on this
-- connection, as where the ask is recorded after its answer, or in a later stay, as where the connection was cut before
-- the answer and the client asked again
abbrev pub is_got_back : List StaySeen → ℕ → StaySeen → AskedSeen → Bool
is_got_back stays number stay asked =
    if is_some stay.reply then stay_names_pid asked.pid stay
    else option_map_or (is_there_or_later stays number stay.c) (last_of (numbers_naming asked.pid stays)) false

-- the stay with this number as a recovery, if the client asked for a session; granted where it got that back
abbrev pub recovery_in : ℕ → List StaySeen → ℕ → StaySeen → Option Recovery
recovery_in client stays number stay =
    option_map (λ asked. record { client = client; stay = number; granted = is_got_back stays number stay asked }) stay.asked

-- the same of the stay with this number among these
abbrev pub recovery_at : ℕ → List StaySeen → ℕ → Option Recovery
recovery_at client stays number = option_and_then (recovery_in client stays number) (slice_get stays number)

-- the recoveries among the stays of the client at a place, in their order
abbrev pub recoveries_in : ℕ → List StaySeen → List Recovery
recoveries_in client stays = flat_map (λ number. option_to_list (recovery_at client stays number)) (numbers_from 0 (length stays))

-- the recoveries that the client at the place asked for
abbrev pub recoveries_at : Cluster → ℕ → List Recovery
recoveries_at c place = recoveries_in place (stays_at c place)

-- all recoveries that clients asked for, client after client
abbrev pub recoveries_of : Cluster → List Recovery
recoveries_of c = flat_map (recoveries_at c) (numbers_from 0 (length c.taps))

-- it was granted
abbrev pub is_granted : Recovery → Bool
is_granted recovery = recovery.granted

-- it was refused, or not answered
abbrev pub is_refused : Recovery → Bool
is_refused recovery = not recovery.granted
