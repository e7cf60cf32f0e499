-- What can make a record allowed that isn't.
use Rattle.std.specs.Prelude.{ℕ, suc, Bool, false, Option, Some, None, if◌then◌else◌, slice_get, nat_eq}
use Rattle.std.specs.Option.{option_map, option_and_then}
use Rattle.std.specs.Ordering.{nat_cmp, ordering_then, is_eq}
use Rattle.std.specs.Cmp.Lexicographic.{slice_cmp}
use Rattle.std.specs.Borrow.{Bor}
use Rattle.aud_tap.specs.declared.records.StreamRec.{StreamRec}
use Rattle.aud_tap.specs.declared.records.NodeRec.{NodeRec}
use Rattle.aud_tap.specs.declared.records.NodeRec.TheVariants.{Start, Take, Takes, Broke, Back}
use Rattle.aud_node.specs.Stream.{Text, offset_of}
use Rattle.aud_node.specs.Cluster.{Cluster, stream_place, node_log}
use Rattle.aud_merge.specs.declared.step.Step.{Step}

-- an entry is appended: its offset, and 0; or a session may begin a turn: its pid, and the turn's number
abbrev pub Cause : Type 0
Cause = Text × ℕ

-- a cause whose text is borrowed
abbrev pub cause_seen : (Bor Text) × ℕ → Cause
cause_seen lent = (lent.0.now, lent.1)

-- the causes are the same
abbrev pub is_same : Cause → Cause → Bool
is_same x y = is_eq (ordering_then (slice_cmp nat_cmp x.0 y.0) (nat_cmp x.1 y.1))

-- what can make the node's record allowed, where it isn't
abbrev pub awaited_by : NodeRec → Option Cause
awaited_by (Start (Some off)) = Some (off, 0)
awaited_by (Take off) = Some (off, 0)
awaited_by (Takes off) = Some (off, 0)
awaited_by (Back pid turn) = Some (pid, turn)
awaited_by _ = None

-- what can make the step allowed
abbrev pub awaited : Cluster → Step → Option Cause
awaited c step = option_and_then awaited_by (slice_get (node_log c step.log) step.index)

-- what the node's record makes so
abbrev pub told_by : NodeRec → Option Cause
told_by (Broke pid turn) = Some (pid, suc turn)
told_by _ = None

-- what an entry makes so
abbrev pub entry_cause : StreamRec → Cause
entry_cause entry = (offset_of entry, 0)

-- this is the place of the stream's tap
abbrev pub is_at : Option ℕ → ℕ → Bool
is_at None log = false
is_at (Some place) log = nat_eq place log

-- what the step makes so, where its log is the stream's
abbrev pub told_entry : Cluster → Step → Option Cause
told_entry c step = if is_at (stream_place c.taps) step.log then option_map entry_cause (slice_get c.stream step.index) else None

-- what a record of a node makes so; where there is none, this
abbrev pub told_or : Option Cause → Option NodeRec → Option Cause
told_or entry None = entry
told_or entry (Some rec) = told_by rec

-- what the step makes so
abbrev pub told : Cluster → Step → Option Cause
told c step = told_or (told_entry c step) (slice_get (node_log c step.log) step.index)
