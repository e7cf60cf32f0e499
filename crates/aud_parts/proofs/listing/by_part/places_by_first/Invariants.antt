use Rattle.std.proofs.Common.{◌≡◌, ℕ, List, false, map, slice_get}
use Rattle.std.specs.Option.{option_map_or}
use Rattle.aud_base.specs.Places.{places_of, places_where}
use Rattle.aud_parts.specs.Private.PartPlaces.{begins_with}
use Rattle.aud_parts.proofs.listing.by_part.places_by_first.Given as goal

-- the parts so far whose first pid is this one
abbrev pub invariant-loop-number : goal.invariant-loop-number
invariant-loop-number l = (pid : List ℕ) → places_of l.index pid
    ≡ places_where (λ part. option_map_or (begins_with pid) (slice_get (map (λ own. own.items) l.parts) part) false) l.number
