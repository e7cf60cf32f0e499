-- What a break in the chain of a session's turns may come from.
use Rattle.std.specs.Prelude.{ℕ, Bool, ◌++◌, List, [], Option, Some, None, option_to_list}
use Rattle.aud_node.specs.Cluster.{Cluster}
use Rattle.aud_node.specs.Stream.{Text}
use Rattle.aud_client.specs.Received.{stays_naming}
use Rattle.aud_client.specs.StaySeen.{StaySeen}
use Rattle.aud_session_facts.specs.Marks.{turn_marks}
use Rattle.aud_session_facts.specs.Recoveries.{stays_at}
use Rattle.aud_session_facts.specs.declared.marks.TurnMark.{TurnMark}
use Rattle.aud_session_facts.specs.declared.place.RecordPlace.{RecordPlace}
use Rattle.aud_causes.specs.declared.cause.Cause.{Cause}
use Rattle.aud_causes.specs.Cleared.{cleared_after_break}
use Rattle.aud_causes.specs.Logs.{recoveries}
use Rattle.aud_causes.specs.Turns.{begins_of, breaks_of, ends_of, missing_causes}
use Rattle.aud_causes.specs.Twice.{is_as_often, opened_twice, twice_causes}

-- the stays of the client's tap at this place, if there is one, whose reply names the session
abbrev pub stays_of_client : Cluster → Option ℕ → Text → List StaySeen
stays_of_client c None pid = []
stays_of_client c (Some client) pid = stays_naming pid (stays_at c client)

-- the causes, where these are all records that begin or end turns of the session, the begins of its turns, whether each is
-- broken, and ended in its log, and the recoveries of its client: no log has a turn's begin, or its break; the session is
-- cleared up after its break; two records take it back for one turn; two open it
abbrev pub causes_of_marks : Cluster → Text → List TurnMark → List (Option RecordPlace) → List Bool → List Bool → List ℕ → List Cause
causes_of_marks c pid marks begins broken ended came =
    missing_causes marks begins broken ended came
    ++ cleared_after_break c pid
    ++ twice_causes begins ended (is_as_often marks came) None marks
    ++ option_to_list (opened_twice marks)

-- the same, where these are the stays of its client's tap whose reply names it
abbrev pub chain_causes : Cluster → Text → List TurnMark → List StaySeen → List Cause
chain_causes c pid marks stays = causes_of_marks c pid marks (begins_of marks) (breaks_of marks) (ends_of marks) (recoveries stays)

-- the same of the session's records, where this is the place of its client's tap
abbrev pub causes_of_turns : Cluster → Option ℕ → Text → List Cause
causes_of_turns c client pid = chain_causes c pid (turn_marks c pid) (stays_of_client c client pid)
