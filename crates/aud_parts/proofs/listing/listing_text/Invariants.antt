use Rattle.std.proofs.Common.{◌≡◌, ◌++◌, take, length, flat_map, codes, decimal, string_bytes}
use Rattle.aud_parts.specs.Listing.{session_line}
use Rattle.aud_parts.proofs.listing.listing_text.Given as goal

-- the first line, and those of the sessions so far
abbrev pub invariant-loop-session : goal.invariant-loop-session
invariant-loop-session l =
    string_bytes l.out
    ≡ codes "parts=" ++ decimal l.parts ++ codes " sessions=" ++ decimal (length l.sessions) ++ codes "\n"
    ++ flat_map session_line (take l.session-index l.sessions)
