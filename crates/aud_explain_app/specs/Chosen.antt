-- The sessions that are shown.
use Rattle.std.specs.Prelude.{◌≡◌, ℕ, Bool, false, List, [], ◌∷◌, flat_map, length, Option, Some, None, slice_get, if◌then◌else◌}
use Rattle.std.specs.List.{filter}
use Rattle.std.specs.Option.{option_and_then, option_map_or}
use Rattle.std.specs.Str.{bytes_eq}
use Rattle.aud_base.specs.FirstTexts.{with_texts}
use Rattle.aud_base.specs.declared.places.Places.{Places}
use Rattle.aud_base.specs.Places.{places_of, places_where}
use Rattle.aud_node.specs.Cluster.{Cluster}
use Rattle.aud_node.specs.Lists.{is_empty}
use Rattle.aud_node.specs.Stream.{Text}
use Rattle.aud_cli.specs.declared.only.Only.{Only}
use Rattle.aud_verdict.specs.declared.verdict.SessionVerdict.{SessionVerdict}
use Rattle.aud_explain_app.specs.Asked.{has_refused}
use Rattle.aud_explain_app.specs.Shown.{is_session_told, is_within}

-- the verdict is on the session with this pid
abbrev pub is_of : Text → SessionVerdict → Bool
is_of pid session = bytes_eq session.pid pid

-- the numbers of those
abbrev pub numbers_of : List SessionVerdict → Text → List ℕ
numbers_of sessions pid = places_where (λ k. option_map_or (is_of pid) (slice_get sessions k) false) (length sessions)

-- the index has the numbers of these verdicts by their pids
abbrev pub IsIndex : Places → List SessionVerdict → Type 0
IsIndex index sessions = (pid : Text) → places_of index pid ≡ numbers_of sessions pid

-- the first of those with this pid
abbrev pub session_of : List SessionVerdict → Text → Option SessionVerdict
session_of sessions pid = option_and_then (slice_get sessions) (slice_get (numbers_of sessions pid) 0)

-- all that have something to explain, and are within what --only says
abbrev pub sessions_told : Cluster → Option Only → List SessionVerdict → List SessionVerdict
sessions_told c only sessions = filter (is_session_told c only) sessions

-- the session is within that
abbrev pub is_session_within : Cluster → Option Only → SessionVerdict → Bool
is_session_within c only session = is_within only session.verdict (has_refused c session.pid)

-- the session, if there is one and it is within it
abbrev pub within_of : Cluster → Option Only → Option SessionVerdict → List SessionVerdict
within_of c only None = []
within_of c only (Some session) = if is_session_within c only session then session ∷ [] else []

-- those with these pids, each once where it first stands, that are within it
abbrev pub sessions_named : Cluster → Option Only → List SessionVerdict → List Text → List SessionVerdict
sessions_named c only sessions pids = flat_map (λ pid. within_of c only (session_of sessions pid)) (with_texts [] pids)

-- the pid, if it is that of this session, which isn't within it
abbrev pub left_out_of : Cluster → Option Only → Text → Option SessionVerdict → List Text
left_out_of c only pid None = []
left_out_of c only pid (Some session) = if is_session_within c only session then [] else pid ∷ []

-- those of the pids, each once where it first stands, whose sessions aren't
abbrev pub pids_left_out : Cluster → Option Only → List SessionVerdict → List Text → List Text
pids_left_out c only sessions pids = flat_map (λ pid. left_out_of c only pid (session_of sessions pid)) (with_texts [] pids)

-- those that the words name, where they name any; else all that have something to explain
abbrev pub sessions_chosen : Cluster → Option Only → List Text → List SessionVerdict → List SessionVerdict
sessions_chosen c only pids sessions = if is_empty pids then sessions_told c only sessions else sessions_named c only sessions pids
