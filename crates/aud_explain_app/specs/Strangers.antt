-- The sessions that clients asked for in vain and that no record names.
use Rattle.std.specs.Prelude.{◌≡◌, Bool, List, [], ◌∷◌, ◌++◌, flat_map, map, Option, None, option_to_list, if◌then◌else◌}
use Rattle.std.specs.List.{All, list_any}
use Rattle.std.specs.Str.{bytes_eq}
use Rattle.aud_node.specs.Cluster.{Cluster}
use Rattle.aud_node.specs.Stream.{Text}
use Rattle.aud_session_facts.specs.declared.asked.Recovery.{Recovery}
use Rattle.aud_verdict.specs.declared.verdict.SessionVerdict.{SessionVerdict}
use Rattle.aud_verdict.specs.Verdicts.{IsVerdictOn}
use Rattle.aud_explain_app.specs.Asked.{pid_asked}

-- ---- which they are

-- the session that was asked for, if that was in vain
abbrev pub pid_in_vain : Cluster → Recovery → Option Text
pid_in_vain c r = if r.granted then None else pid_asked c r

-- those of these recoveries, one after the other
abbrev pub asked_in_vain : Cluster → List Recovery → List Text
asked_in_vain c recoveries = flat_map (λ r. option_to_list (pid_in_vain c r)) recoveries

-- the pid is one of these
abbrev pub has_pid : List Text → Text → Bool
has_pid pids pid = list_any (λ other. bytes_eq other pid) pids

-- these pids, and after them each of the others that isn't there, once, where it first stands
abbrev pub with_pids : List Text → List Text → List Text
with_pids pids [] = pids
with_pids pids (pid ∷ others) = with_pids (if has_pid pids pid then pids else pids ++ pid ∷ []) others

-- ---- their verdicts

-- this is the verdict on its session, with or without the whole
abbrev pub IsJudged : Cluster → Bool → SessionVerdict → Type 0
IsJudged c whole session = IsVerdictOn c whole session.pid session.verdict

abbrev pub pids_of : List SessionVerdict → List Text
pids_of sessions = map (λ (s : SessionVerdict). s.pid) sessions

-- the verdicts on those of the sessions asked for that have none yet were added
pub record AreAdded (c : Cluster) (whole : Bool) (asked : List Text) (old new : List SessionVerdict) : Type 0 where
  pub others : List SessionVerdict
  pub are_judged : All (IsJudged c whole) others
  pub are_added : new ≡ old ++ others
  pub are_asked : pids_of new ≡ with_pids (pids_of old) asked
