-- Which pid of the words no session has.
use Rattle.std.specs.Prelude.{ℕ, not, List, Option}
use Rattle.aud_maker.specs.Sessions.{sessions_of}
use Rattle.aud_node.specs.Cluster.{Cluster}
use Rattle.aud_node.specs.Lists.{first_index}
use Rattle.aud_node.specs.Stream.{Text}
use Rattle.aud_session_facts.specs.Recoveries.{recoveries_of}
use Rattle.aud_explain_app.specs.Strangers.{asked_in_vain, has_pid, with_pids}

-- the pids of the sessions that can be shown: those that are judged, and after them those that were asked for in vain
abbrev pub pids_known : Cluster → List Text
pids_known c = with_pids (sessions_of c) (asked_in_vain c (recoveries_of c))

-- the number of the first of these pids that is not among the known ones; none where all are
abbrev pub first_missing : List Text → List Text → Option ℕ
first_missing known pids = first_index (λ pid. not (has_pid known pid)) pids
