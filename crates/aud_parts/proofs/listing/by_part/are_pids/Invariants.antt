use Rattle.std.proofs.Common.{◌≡◌, drop, bytes_eq}
use Rattle.std.specs.Cmp.Lexicographic.{pointwise}
use Rattle.aud_parts.specs.ReportLines.{pids_of}
use Rattle.aud_parts.proofs.listing.by_part.are_pids.Given as goal

-- the pids that are left decide
abbrev pub invariant-loop-i : goal.invariant-loop-i
invariant-loop-i l = pointwise bytes_eq (drop l.i l.pids) (pids_of (drop l.i l.lines)) ≡ pointwise bytes_eq l.pids (pids_of l.lines)
