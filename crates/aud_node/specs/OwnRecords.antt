-- The records of a session in a node's log.
use Rattle.std.specs.Prelude.{ℕ, Bool, false, List, length, Option, Some, None, slice_get}
use Rattle.std.specs.List.{filter}
use Rattle.std.specs.Str.{bytes_eq}
use Rattle.aud_tap.specs.declared.records.NodeRec.{NodeRec}
use Rattle.aud_node.specs.Lists.{numbers_from}
use Rattle.aud_node.specs.Stream.{Text}
use Rattle.aud_node.specs.TurnRecords.{pid_of}

-- the pid is this one
abbrev pub is_pid : Option Text → Text → Bool
is_pid None pid = false
is_pid (Some other) pid = bytes_eq other pid

-- there is a record, and it names the pid
abbrev pub record_names : Option NodeRec → Text → Bool
record_names None pid = false
record_names (Some rec) pid = is_pid (pid_of rec) pid

-- the numbers, ascending, of the records that name the pid
abbrev pub own_numbers : List NodeRec → Text → List ℕ
own_numbers log pid = filter (λ number. record_names (slice_get log number) pid) (numbers_from 0 (length log))
