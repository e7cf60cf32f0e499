-- The turns of a session.
use Rattle.std.specs.Prelude.{List, Option, Some, None}
use Rattle.aud_node.specs.Cluster.{Cluster}
use Rattle.aud_node.specs.Stream.{Text}
use Rattle.aud_session_facts.specs.declared.account.Account.{Account}
use Rattle.aud_session_facts.specs.Marks.{turn_marks}
use Rattle.aud_input.specs.TapLines.{TapLines}
use Rattle.aud_findings.specs.ShownTurn.{ShownTurn}
use Rattle.aud_findings.specs.ChainTurns.{turns_shown}
use Rattle.aud_findings.specs.MarkedTurns.{marked_turns}

-- those of the session's certificate, if it has an account; else those that its records on the nodes begin
abbrev pub turns_told : Cluster → List TapLines → Text → Option Account → List ShownTurn
turns_told c lines pid (Some account) = turns_shown c lines account.cert.turns
turns_told c lines pid None = marked_turns c lines (turn_marks c pid)
