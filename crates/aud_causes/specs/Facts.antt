-- What the causes of a difference go by.
use Rattle.std.specs.Prelude.{ℕ, Bool, false, List, Option, Some, None, if◌then◌else◌, slice_get}
use Rattle.std.specs.Option.{option_and_then, option_map}
use Rattle.aud_tap.specs.declared.records.StreamRec.{StreamRec}
use Rattle.aud_client.specs.StaySeen.{StaySeen}
use Rattle.aud_client.specs.Received.{is_recovered}
use Rattle.aud_cert.specs.Certificate.{TurnSeen}
use Rattle.aud_check.specs.declared.difference.Difference.{Difference}
use Rattle.aud_check.specs.declared.difference.Difference.TheVariants.{Extra, Doubled, Swapped, Lost}
use Rattle.aud_session_facts.specs.StayTurns.{asked_after, stay_of_frame, stays_match}
use Rattle.aud_causes.specs.declared.facts.Parted.{Parted}
use Rattle.aud_causes.specs.declared.facts.Replay.{Replay}
use Rattle.aud_causes.specs.declared.facts.Facts.{Facts}

-- the entry in question, and two frames: of an entry that came twice both; of one that came late the one in its place,
-- and its own; of one that was lost the one in its place; of one that was not due the first of all, and its own
abbrev pub parted_at : Difference → Parted
parted_at (Extra frame position) = record { position = position; first = 0; again = frame }
parted_at (Doubled first again position) = record { position = position; first = first; again = again }
parted_at (Swapped frame due later) = record { position = due; first = frame; again = later }
parted_at (Lost frame due) = record { position = due; first = frame; again = frame }

-- the stay that the later one is held against: that of the first frame; the session's first of an entry that was not
-- due
abbrev pub earlier_stay : List StaySeen → Difference → ℕ
earlier_stay stays (Extra frame position) = 0
earlier_stay stays (Doubled first again position) = stay_of_frame stays 0 first
earlier_stay stays (Swapped frame due later) = stay_of_frame stays 0 frame
earlier_stay stays (Lost frame due) = stay_of_frame stays 0 frame

-- there is a stay, and its reply names the session that was asked for
abbrev pub is_recovery : Option StaySeen → Bool
is_recovery None = false
is_recovery (Some stay) = is_recovered stay

-- what the node had to send again in the stay with this number: what comes after the position that was asked for, up to its
-- cursor where it took the session back, at the begin of the turn with that number; where both are known: the stays match
-- the turns
abbrev pub replay_of : Bool → List TurnSeen → ℕ → Option ℕ → Option Replay
replay_of matched turns number asked =
    if matched
    then option_and_then (λ after. option_map (λ (t : TurnSeen). record { after = after; low = t.low }) (slice_get turns number)) asked
    else None

-- the facts of a difference, where these are the session's turns and the stays whose reply names it
abbrev pub facts_of : List StreamRec → List TurnSeen → List StaySeen → Difference → Facts
facts_of stream turns stays difference =
    let parted = parted_at difference in
    let matched = stays_match stream turns stays in
    let later = stay_of_frame stays 0 parted.again in
    let asked = asked_after stream (slice_get stays later) in
    record {
      parted = parted;
      matched = matched;
      earlier = earlier_stay stays difference;
      later = later;
      recovered = is_recovery (slice_get stays later);
      asked = asked;
      replay = replay_of matched turns later asked;
    }
