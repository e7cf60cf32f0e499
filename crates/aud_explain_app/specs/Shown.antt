-- Which sessions have something to explain, and are within what is shown.
use Rattle.std.specs.Prelude.{Bool, true, false, ◌&&◌, Option, Some, None}
use Rattle.aud_node.specs.Cluster.{Cluster}
use Rattle.aud_cli.specs.declared.only.Only.{Only}
use Rattle.aud_cli.specs.Only.{shows, shows_refused}
use Rattle.aud_verdict.specs.declared.verdict.SessionVerdict.{SessionVerdict}
use Rattle.aud_verdict.specs.declared.verdict.Verdict.{Verdict}
use Rattle.aud_verdict.specs.declared.verdict.Verdict.TheVariants.{Yes, No}
use Rattle.aud_explain_app.specs.Asked.{has_refused}

-- there is something to explain: the session is answered no, or a recovery of it was refused
abbrev pub has_told : Verdict → Bool → Bool
has_told (No fault) is_refused = true
has_told (Yes got tail turns) is_refused = is_refused

-- a session that is answered yes is within what --only says
abbrev pub shows_yes : Only → Bool → Bool
shows_yes only true = shows_refused only
shows_yes only false = false

-- the session is within what --only says
abbrev pub is_within : Option Only → Verdict → Bool → Bool
is_within None verdict is_refused = true
is_within (Some only) (No fault) is_refused = shows only fault
is_within (Some only) (Yes got tail turns) is_refused = shows_yes only is_refused

-- it has something to explain, and is within that
abbrev pub is_told : Option Only → Verdict → Bool → Bool
is_told shown verdict is_refused = has_told verdict is_refused && is_within shown verdict is_refused

-- the same over a recording
abbrev pub is_session_told : Cluster → Option Only → SessionVerdict → Bool
is_session_told c shown session = is_told shown session.verdict (has_refused c session.pid)
