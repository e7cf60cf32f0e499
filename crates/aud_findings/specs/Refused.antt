-- A recovery that was refused.
use Rattle.std.specs.Prelude.{◌≡◌, ℕ, List, flat_map, map, Option, Some, None, option_to_list, slice_get}
use Rattle.std.specs.Option.{option_map, option_and_then}
use Rattle.aud_tap.specs.declared.records.StreamRec.{StreamRec}
use Rattle.aud_node.specs.Cluster.{Cluster}
use Rattle.aud_node.specs.Stream.{Text, entry, offset_of}
use Rattle.aud_client.specs.Replies.{ReplySeen}
use Rattle.aud_client.specs.StaySeen.{AskedSeen, StaySeen}
use Rattle.aud_input.specs.TapLines.{TapLines}
use Rattle.aud_session_facts.specs.Missed.{IsMissed, IsUntold}
use Rattle.aud_rows.specs.declared.row.Role.TheVariants as role
use Rattle.aud_rows.specs.Seen.{RowSeen, row_seen}
use Rattle.aud_rows.specs.StayRows.{ask_row, reply_row, stays_at}
use Rattle.aud_explanation.specs.declared.refused.Missed.{Missed}
use Rattle.aud_findings.specs.declared.timeline.refused.RefusedShown.{RefusedShown}

-- ---- as contracts see it

-- an entry that a client missed
pub record MissedSeen : Type 0 where
  pub position : ℕ
  pub off : Text

abbrev pub missed_seen : Missed → MissedSeen
missed_seen missed = record { position = missed.position; off = missed.off.now }

-- what was asked, and answered; the session that the client got; and what it missed, where that is known
pub record RefusedSeen : Type 0 where
  pub ask : RowSeen
  pub reply : Option RowSeen
  pub instead : Option Text
  pub missed : Option (List MissedSeen)

abbrev pub refused_seen : RefusedShown → RefusedSeen
refused_seen shown =
    record {
      ask = row_seen shown.ask;
      reply = option_map row_seen shown.reply;
      instead = option_map (λ pid. pid.now) shown.instead;
      missed = option_map (λ missed. map missed_seen missed.items) shown.missed;
    }

-- ---- the stay

-- the session that a client asked for in the stay
abbrev pub asked_in : Option StaySeen → Option Text
asked_in stay = option_map (λ (asked : AskedSeen). asked.pid) (option_and_then (λ (s : StaySeen). s.asked) stay)

-- the session that the stay's reply names
abbrev pub got_in : Option StaySeen → Option Text
got_in stay = option_and_then (λ (reply : ReplySeen). reply.pid) (option_and_then (λ (s : StaySeen). s.reply) stay)

-- ---- what was missed

-- the entry at this position
abbrev pub missed_at : List StreamRec → ℕ → Option MissedSeen
missed_at stream position = option_map (λ e. record { position = position; off = offset_of e }) (entry stream position)

-- the entries at these positions
abbrev pub missed_entries : List StreamRec → List ℕ → List MissedSeen
missed_entries stream positions = flat_map (λ position. option_to_list (missed_at stream position)) positions

-- these are the entries that the client at the place missed where it asked for one session and got another
pub record AreMissed (c : Cluster) (client : ℕ) (asked got : Text) (missed : List MissedSeen) : Type 0 where
  pub positions : List ℕ
  pub is_missed : IsMissed c client asked got positions
  pub are_entries : missed ≡ missed_entries c.stream positions

-- this is what the client at the place missed where it asked for one session and got another: nothing is known of it
-- where it asked for none or got none, and where the logs don't tell
abbrev pub IsMissedOf : Cluster → ℕ → Option Text → Option Text → Option (List MissedSeen) → Type 0
IsMissedOf c client (Some asked) (Some got) (Some missed) = AreMissed c client asked got missed
IsMissedOf c client (Some asked) (Some got) None = IsUntold c asked got
IsMissedOf c client _ _ (Some missed) = ⊥
IsMissedOf c client _ _ None = Unit {0}

-- ---- all of it

-- this shows the stay with this number of the client's tap at this place as a recovery that was refused
pub record ShowsRefused (c : Cluster) (lines : List TapLines) (place stay : ℕ) (shown : RefusedSeen) : Type 0 where
  pub ask_is : ask_row c lines place stay role.Ask ≡ Some shown.ask
  pub reply_is : shown.reply ≡ reply_row c lines place stay role.Reply
  pub instead_is : shown.instead ≡ got_in (slice_get (stays_at c place) stay)
  pub missed_is : IsMissedOf c place (asked_in (slice_get (stays_at c place) stay)) shown.instead shown.missed
