-- Which logs wait for what.
use Rattle.std.specs.Prelude.{ℕ, List, []}
use Rattle.std.specs.Option.{option_map_or}
use Rattle.std.specs.Ordering.{nat_cmp, ordering_then}
use Rattle.std.specs.Cmp.Lexicographic.{slice_cmp}
use Rattle.std.specs.BTreeMap as tree
use Rattle.aud_merge.specs.declared.waiting.Waiting.{Waiting}
use Rattle.aud_merge.specs.Private.Causes.{Cause}

-- the logs that wait for the cause
abbrev pub waiters : Waiting → Cause → List ℕ
waiters waiting cause =
    option_map_or (λ places. places.items) (tree.get_by (λ k. ordering_then (slice_cmp nat_cmp cause.0 k.0.now) (nat_cmp cause.1 k.1)) waiting.by_cause) []
