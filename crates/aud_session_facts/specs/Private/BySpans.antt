-- Why an entry is not due, by what a certificate has.
use Rattle.std.specs.Prelude.{ℕ, List, Option, Some, if◌then◌else◌, nat_le, nat_lt}
use Rattle.aud_tap.specs.declared.records.StreamRec.{StreamRec}
use Rattle.aud_node.specs.Stream.{Text, entry}
use Rattle.aud_rooms.specs.Spans.{RoomSpan, rooms_by_spans}
use Rattle.aud_session_facts.specs.Reasons.{Reason, BeforeBirth, InNoTurn}
use Rattle.aud_session_facts.specs.NotDue.{why_not_for}

-- why the entry is not due to a session of this namespace with these spans, which was opened at the first position and
-- reached the second
abbrev pub why_by_spans : List StreamRec → List RoomSpan → Text → ℕ → ℕ → ℕ → Option Reason
why_by_spans stream spans nsp low high p =
    if nat_le p low then Some BeforeBirth
    else if nat_lt high p then Some InNoTurn
    else why_not_for (entry stream p) nsp (rooms_by_spans spans p)
