use Rattle.std.proofs.Common.{◌<◌, ◌≤◌, ℕ}
use Rattle.aud_merge.specs.Machine.{taken_of}
use Rattle.aud_merge.specs.Runs.{record_count}
use Rattle.aud_merge.proofs.run.is_finished.Given as goal

abbrev pub invariant-loop-place : goal.invariant-loop-place
invariant-loop-place l = (place : ℕ) → place < l.place → record_count l.logs place ≤ taken_of l.state place
