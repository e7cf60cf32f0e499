-- The pids that a node's records name, by its log.
use Rattle.std.specs.Prelude.{ℕ, Bool, false, List, [], length, Option, Some, None, slice_get}
use Rattle.std.specs.List.{filter_map, list_any}
use Rattle.std.specs.Option.{option_flatten}
use Rattle.aud_base.specs.Places.{places_where}
use Rattle.aud_node.specs.NodeTap.{NodeTap}
use Rattle.aud_node.specs.OwnRecords.{record_names}
use Rattle.aud_node.specs.Stream.{Text}
use Rattle.aud_node.specs.TurnRecords.{pid_of}

-- the pids of its records, each as often as it stands; none where there is no log
abbrev pub log_pids : Option NodeTap → List Text
log_pids None = []
log_pids (Some log) = filter_map pid_of log.recs

-- there is a log, and a record of it names the pid
abbrev pub log_names : Text → Option NodeTap → Bool
log_names pid None = false
log_names pid (Some log) = list_any (λ rec. record_names (Some rec) pid) log.recs

-- the places, ascending, of the logs whose records name the pid
abbrev pub places_naming : List (Option NodeTap) → Text → List ℕ
places_naming logs pid = places_where (λ place. log_names pid (option_flatten (slice_get logs place))) (length logs)
