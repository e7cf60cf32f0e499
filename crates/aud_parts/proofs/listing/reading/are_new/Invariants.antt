use Rattle.std.proofs.Common.{◌≡◌, [], drop, map, take}
use Rattle.aud_base.specs.Places.{texts_of}
use Rattle.aud_parts.specs.Listing.{are_new}
use Rattle.aud_parts.specs.declared.listing.ListedSession.{ListedSession}
use Rattle.aud_parts.proofs.listing.reading.are_new.Given as goal

-- the pids so far were noted, and what is left decides
abbrev pub invariant-loop-session : goal.invariant-loop-session
invariant-loop-session l = record {
  seen : texts_of l.seen ≡ map (λ (s : ListedSession). s.pid) (take l.session-index l.sessions);
  left : are_new (map (λ (s : ListedSession). s.pid) (take l.session-index l.sessions)) (drop l.session-index l.sessions) ≡ are_new [] l.sessions;
}
