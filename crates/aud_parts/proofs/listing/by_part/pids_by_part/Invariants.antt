use Rattle.std.proofs.Common.{◌≡◌, [], map, replicate, take}
use Rattle.aud_base.specs.Lists.{numbers_from}
use Rattle.aud_parts.specs.Listing.{pids_of_part}
use Rattle.aud_parts.proofs.listing.by_part.pids_by_part.Given as goal

-- so many parts without a session
abbrev pub invariant-loop-part : goal.invariant-loop-part
invariant-loop-part l = map (λ part. part.items) l.parts.items ≡ replicate l._part []

-- the pids of each part's sessions so far
abbrev pub invariant-loop-session : goal.invariant-loop-session
invariant-loop-session l =
    map (λ part. part.items) l.parts.items
    ≡ map (pids_of_part (take l.session-index l.listing.sessions)) (numbers_from 0 l.listing.parts)
