use Rattle.std.proofs.Common.{◌≡◌, drop, map}
use Rattle.std.specs.List.{list_all}
use Rattle.aud_parts.specs.Listing.{has_some}
use Rattle.aud_parts.proofs.listing.reading.is_full.Given as goal

-- the parts that are left decide
abbrev pub invariant-loop-pids : goal.invariant-loop-pids
invariant-loop-pids l = list_all has_some (map (λ part. part.items) (drop l.pids-index l.pids-items)) ≡ list_all has_some (map (λ part. part.items) l.pids-items)
