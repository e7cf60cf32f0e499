-- How turns end, by their last records.
use Rattle.std.specs.Prelude.{ℕ, suc, Bool, true, false, List, [], ◌∷◌, length, ◌-◌, ◌&&◌, Option, Some, None, if◌then◌else◌, nat_eq, slice_get}
use Rattle.std.specs.Str.{bytes_eq}
use Rattle.aud_tap.specs.declared.records.NodeRec.{NodeRec}
use Rattle.aud_tap.specs.declared.records.NodeRec.TheVariants.{Broke, Gone}
use Rattle.aud_node.specs.Lists.{is_empty}
use Rattle.aud_node.specs.Stream.{Text}
use Rattle.aud_node.specs.Cluster.{Cluster, node_log}
use Rattle.aud_rooms.specs.Turns.{Turn, End, ByBreak, ByGone, ByLog}

-- how turn k ends whose last record this is: none where that is the session's `break` of another number
abbrev pub end_by : Text → ℕ → Option NodeRec → Option End
end_by pid k (Some (Broke other number)) = if bytes_eq other pid then (if nat_eq number k then Some ByBreak else None) else Some ByLog
end_by pid k (Some (Gone other)) = if bytes_eq other pid then Some ByGone else Some ByLog
end_by pid k _ = Some ByLog

-- a turn may end so: before others by its break alone, the last one also with the session, or with the log
abbrev pub may_end : Bool → Bool → Option End → Bool
may_end is_last with_log None = false
may_end is_last with_log (Some ByBreak) = true
may_end is_last with_log (Some ByGone) = is_last
may_end is_last with_log (Some ByLog) = is_last && with_log

-- turn k ends as it may
abbrev pub is_ended : Cluster → Text → ℕ → Turn → Bool → Bool
is_ended c pid k t is_last =
    may_end is_last (nat_eq t.to (length (node_log c t.node))) (end_by pid k (slice_get (node_log c t.node) (t.to - 1)))

-- the turns from turn k on end as they may
abbrev pub are_ended : Cluster → Text → ℕ → List Turn → Bool
are_ended c pid k [] = true
are_ended c pid k (t ∷ later) = is_ended c pid k t (is_empty later) && are_ended c pid (suc k) later
