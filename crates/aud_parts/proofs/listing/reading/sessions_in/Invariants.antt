use Rattle.std.proofs.Common.{◌≡◌, drop}
use Rattle.aud_parts.specs.Listing.{sessions_in}
use Rattle.aud_parts.proofs.ListingLemmas.{with_sessions}
use Rattle.aud_parts.proofs.listing.reading.sessions_in.Given as goal

-- the sessions so far, and those of the lines that are left, are those of all lines
abbrev pub invariant-loop-line : goal.invariant-loop-line
invariant-loop-line l = with_sessions l.sessions.items (sessions_in l.parts (drop l.line-index l.lines)) ≡ sessions_in l.parts l.lines
