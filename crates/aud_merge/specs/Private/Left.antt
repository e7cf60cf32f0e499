-- How many records are left.
use Rattle.std.specs.Prelude.{ℕ, zero, suc, ◌+◌, ◌-◌, length}
use Rattle.aud_node.specs.Cluster.{Cluster}
use Rattle.aud_merge.specs.Machine.{State, taken_of}
use Rattle.aud_merge.specs.Runs.{record_count}

-- how many records of so many logs, from this place on, weren't taken
abbrev pub left_from : Cluster → State → ℕ → ℕ → ℕ
left_from c st place zero = 0
left_from c st place (suc count) = (record_count c place - taken_of st place) + left_from c st (suc place) count

-- how many records weren't taken
abbrev pub left : Cluster → State → ℕ
left c st = left_from c st 0 (length c.taps)
