-- What a recovery that was asked for where it does not fit may come from.
use Rattle.std.specs.Prelude.{ℕ, false, not, List, [], ◌∷◌, Option, Some, None, slice_get}
use Rattle.std.specs.Option.{option_map, option_map_or, option_and_then}
use Rattle.aud_node.specs.Cluster.{Cluster}
use Rattle.aud_node.specs.Stream.{Text}
use Rattle.aud_client.specs.StaySeen.{AskedSeen, StaySeen}
use Rattle.aud_check.specs.declared.window.BadWindow.{BadWindow}
use Rattle.aud_check.specs.declared.window.Misfit.{Misfit}
use Rattle.aud_check.specs.declared.window.Misfit.TheVariants as misfit
use Rattle.aud_session_facts.specs.StayTurns.{asked_after}
use Rattle.aud_causes.specs.declared.cause.Cause.{Cause}
use Rattle.aud_causes.specs.declared.cause.Cause.TheVariants.{NoOffset, UnknownOffset, StaleOffset}
use Rattle.aud_causes.specs.Delivery.{cause_if, held}
use Rattle.aud_causes.specs.NamedEntries.{is_named}
use Rattle.aud_causes.specs.Differences.{offset_of_another}

-- the offset with which the client asked in the stay, if there is one
abbrev pub offset_in : Option StaySeen → Option Text
offset_in stay = option_and_then (λ (s : StaySeen). option_and_then (λ (asked : AskedSeen). asked.offset) s.asked) stay

-- what such a misfit of this stay says, where the client asked with this offset to go on after this position: it gave no
-- offset; or one that neither the stream nor a node's log has; or one before a frame that it had
abbrev pub misfit_cause : Cluster → ℕ → Option Text → Option ℕ → Misfit → Option Cause
misfit_cause c stay off asked misfit.NoOffset = Some (NoOffset stay)
misfit_cause c stay off asked misfit.Unknown = cause_if (not (option_map_or (is_named c) off false)) (UnknownOffset stay)
misfit_cause c stay off asked (misfit.Behind frame) = option_map (StaleOffset stay) asked
misfit_cause c stay off asked (misfit.NotBehind frame) = None

abbrev pub by_misfit : Cluster → BadWindow → Option Text → Option ℕ → Option Cause
by_misfit c window off asked = misfit_cause c window.stay off asked window.why

-- of such a recovery: what the misfit says; the offset was another session's
abbrev pub window_causes : Cluster → List StaySeen → List ℕ → BadWindow → List Cause
window_causes c stays due window =
    let stay = slice_get stays window.stay in
    let asked = asked_after c.stream stay in
    held (by_misfit c window (offset_in stay) asked ∷ offset_of_another due window.stay asked ∷ [])
