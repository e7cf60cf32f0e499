-- What contracts see of the sessions by pid.
use Rattle.std.specs.Prelude.{ℕ, List, map}
use Rattle.std.specs.Borrow.{Bor}
use Rattle.std.specs.Ordering.{nat_cmp}
use Rattle.std.specs.Cmp.Lexicographic.{slice_cmp}
use Rattle.std.specs.FinMap as fin
use Rattle.aud_merge.specs.Sessions as seen
use Rattle.aud_merge.specs.declared.session.OpenedSession.{OpenedSession}
use Rattle.aud_merge.specs.SessionSeen.{session_seen}

-- a map's entries, in which texts are borrowed
abbrev pub sessions_seen : List ((Bor (List ℕ)) × OpenedSession) → fin.FinMap (slice_cmp nat_cmp) seen.SessionState
sessions_seen entries = fin.from_entries (map (λ e. (e.0.now, session_seen e.1)) entries)
