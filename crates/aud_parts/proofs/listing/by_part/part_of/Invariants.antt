use Rattle.std.proofs.Common.{◌≡◌, drop, map}
use Rattle.std.specs.List.{find}
use Rattle.aud_parts.specs.ReportLines.{pids_of}
use Rattle.aud_parts.specs.Private.PartPlaces.{has_pids}
use Rattle.aud_parts.proofs.listing.by_part.part_of.Given as goal

-- the part is found among the places that are left
abbrev pub invariant-loop-part : goal.invariant-loop-part
invariant-loop-part l =
    find (has_pids (map (λ own. own.items) l.parts) (pids_of l.lines)) (drop l.part-index l.part-items)
    ≡ find (has_pids (map (λ own. own.items) l.parts) (pids_of l.lines)) l.part-items
