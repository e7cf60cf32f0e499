-- The records of the sessions of a part, and for whom entries are, where sets of texts tell which texts are meant.
use Rattle.std.specs.Prelude.{◌&&◌, ◌||◌, Bool, false, Option, Some, None}
use Rattle.std.specs.List.{list_any}
use Rattle.std.specs.HashSet.{HashSet, contains}
use Rattle.std.specs.Str.{bytes_eq}
use Rattle.aud_tap.specs.declared.records.StreamRec.{StreamRec}
use Rattle.aud_tap.specs.declared.records.StreamRec.TheVariants.{Ev, Other}
use Rattle.aud_tap.specs.declared.records.NodeRec.{NodeRec}
use Rattle.aud_tap.specs.RecordFields.{pid_of}
use Rattle.aud_node.specs.Lists.{is_empty}
use Rattle.aud_node.specs.Stream.{Text}

-- the set has the text
abbrev pub has : {S : Type 0} → HashSet Text S → Text → Bool
has set text = contains bytes_eq set text

-- there is a pid, and it is that of a session that is kept
abbrev pub is_kept_pid : (Text → Bool) → Option Text → Bool
is_kept_pid keeps None = false
is_kept_pid keeps (Some pid) = keeps pid

-- the record names a session that is kept
abbrev pub names_kept : (Text → Bool) → NodeRec → Bool
names_kept keeps rec = is_kept_pid keeps (pid_of rec)

-- the record names a session that is kept, and passes the test
abbrev pub passes_own : (Text → Bool) → (NodeRec → Bool) → NodeRec → Bool
passes_own keeps test rec = names_kept keeps rec && test rec

-- the entry is an event for one of these namespaces, and for no room or one of these
abbrev pub is_for : (Text → Bool) → (Text → Bool) → StreamRec → Bool
is_for namespaces rooms (Ev event) = namespaces event.nsp && (is_empty event.rooms || list_any rooms event.rooms)
is_for namespaces rooms (Other off) = false
