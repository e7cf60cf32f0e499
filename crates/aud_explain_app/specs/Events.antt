-- What happened to the client of a session.
use Rattle.std.specs.Prelude.{◌≡◌, ℕ, Bool, false, not, ◌&&◌, List, [], ◌++◌, map, nat_eq, Option, Some, None, slice_get}
use Rattle.std.specs.List.{filter}
use Rattle.std.specs.Option.{option_map, option_map_or}
use Rattle.aud_node.specs.Cluster.{Cluster}
use Rattle.aud_node.specs.Stream.{Text}
use Rattle.aud_explanation.specs.declared.event.ClientEvent.{ClientEvent}
use Rattle.aud_input.specs.TapLines.{TapLines}
use Rattle.aud_client.specs.Received.{stay_names_pid}
use Rattle.aud_session_facts.specs.declared.asked.Recovery.{Recovery}
use Rattle.aud_session_facts.specs.Recoveries.{stays_at}
use Rattle.aud_rows.specs.declared.client_places.ClientPlaces.{ClientPlaces}
use Rattle.aud_session_facts.specs.ShowsDifference.{AreNumbersOf}
use Rattle.aud_findings.specs.ClientEvents.{client_events}

-- the place of the tap, if there is one
abbrev pub place_of : Option ClientPlaces → Option ℕ
place_of tap = option_map (λ (t : ClientPlaces). t.place) tap

-- the reply to what was asked for names the session
abbrev pub is_named : Cluster → Text → Recovery → Bool
is_named c pid r = option_map_or (stay_names_pid pid) (slice_get (stays_at c r.client) r.stay) false

-- the stays of those of the recoveries that are of the client at this place, where no reply names the session
abbrev pub stays_unnamed : Cluster → ℕ → Text → List Recovery → List ℕ
stays_unnamed c place pid asked = map (λ (r : Recovery). r.stay) (filter (λ (r : Recovery). nat_eq r.client place && not (is_named c pid r)) asked)

-- this happened to the session's client in its tap at this place: in the stays whose reply names the session, and in
-- those in which it asked for it and no reply does
pub record AreEventsAt (c : Cluster) (lines : List TapLines) (place : ℕ) (pid : Text) (asked : List Recovery) (events : List ClientEvent) : Type 0 where
  pub numbers : List ℕ
  pub are_its_stays : AreNumbersOf c pid place numbers
  pub are : events ≡ client_events c lines place pid (numbers ++ stays_unnamed c place pid asked)

-- the same where the session has just one client; else nothing is told
abbrev pub AreEvents : Cluster → List TapLines → Option ℕ → Text → List Recovery → List ClientEvent → Type 0
AreEvents c lines (Some place) pid asked events = AreEventsAt c lines place pid asked events
AreEvents c lines None pid asked events = events ≡ []
