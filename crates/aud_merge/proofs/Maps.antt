-- A `BTreeMap` from borrowed texts to sessions, seen as a map.
use Rattle.std.proofs.Common.{◌≡◌, arith, ℕ, cond, List, [], ◌∷◌, map, refl, ◌∙◌, Bor, Option, Some, None, option_map, unwrap_or, IsSome}
use Rattle.std.specs.Ordering.{nat_cmp, is_eq}
use Rattle.std.specs.Cmp.Lexicographic.{slice_cmp, nat_list_cmp_total}
use Rattle.std.specs.Cmp.{eq_by_cmp_equiv}
use Rattle.std.specs.FinMap as fin
use Rattle.std.specs.Map.{lookup}
use Rattle.aud_merge.specs.Sessions as seen
use Rattle.aud_tap.specs.declared.records.NodeRec.{NodeRec}
use Rattle.aud_merge.specs.Machine.{sessions_after}
use Rattle.aud_merge.specs.Sessions.{session_after}
use Rattle.aud_merge.specs.declared.session.OpenedSession.{OpenedSession}
use Rattle.aud_merge.specs.SessionSeen.{session_seen, seen_or_absent}
use Rattle.aud_merge.specs.Private.SessionsSeen.{sessions_seen}

-- the sessions by pid, as the machine has them
abbrev Sessions : Type 0
Sessions = fin.FinMap (slice_cmp nat_cmp) seen.SessionState

-- a session looked up in what is seen is the entry of that pid
pub get-sessions_of : (entries : List ((Bor (List ℕ)) × OpenedSession)) (pid : List ℕ) → fin.get (sessions_seen entries) pid ≡ option_map session_seen (lookup (λ k. is_eq (slice_cmp nat_cmp pid k.now)) entries)
get-sessions_of entries pid = fin.get-from_entries nat_list_cmp_total (map (λ e. (e.0.now, session_seen e.1)) entries) pid ∙ same entries
  where
    same : (es : List ((Bor (List ℕ)) × OpenedSession)) → fin.find (slice_cmp nat_cmp) pid (map (λ e. (e.0.now, session_seen e.1)) es) ≡ option_map session_seen (lookup (λ k. is_eq (slice_cmp nat_cmp pid k.now)) es)
    same [] = refl
    same (e ∷ es) = grind (arith, same es)

-- a session that isn't in the map was never opened
pub or_absent : (o : Option OpenedSession) → seen_or_absent o ≡ unwrap_or (option_map session_seen o) seen.Absent
or_absent None = refl
or_absent (Some s) = refl

pub ruleset seen_sessions = (get-sessions_of, or_absent)

-- where each look-up finds the new session or what it found before, the session was put in
pub sessions_of-insert : (olds news : List ((Bor (List ℕ)) × OpenedSession)) (pid : List ℕ) (s : OpenedSession)
    → ((q : Bor (List ℕ)) → lookup (λ k. is_eq (slice_cmp nat_cmp q.now k.now)) news ≡ cond (is_eq (slice_cmp nat_cmp pid q.now)) (Some s) (lookup (λ k. is_eq (slice_cmp nat_cmp q.now k.now)) olds))
    → sessions_seen news ≡ fin.insert (sessions_seen olds) pid (session_seen s)
sessions_of-insert olds news pid s updates =
    fin.same_map nat_list_cmp_total (fin.slice_cmp-IsAntisymmetric fin.nat_cmp-IsAntisymmetric) _ _
    (λ q. grind (arith, get-sessions_of news q, get-sessions_of olds q, updates (record { ref_ptr = (0, 0); now = q }), (eq_by_cmp_equiv nat_list_cmp_total).symm pid q, fin.get-insert nat_list_cmp_total (sessions_seen olds) pid (session_seen s) q))

pub ruleset put_session = (sessions_of-insert)

-- what a look-up of the pid in the entries found
module _ (entries : List ((Bor (List ℕ)) × OpenedSession)) (old : Sessions) (same : sessions_seen entries ≡ old) (pid : List ℕ) where
  -- the session of the pid is what the look-up found
  pub found : (o : Option OpenedSession) → o ≡ lookup (λ k. is_eq (slice_cmp nat_cmp pid k.now)) entries → unwrap_or (fin.get old pid) seen.Absent ≡ seen_or_absent o
  found o is = grind (arith, get-sessions_of entries pid, or_absent o)

-- a record that names the pid, and the session that it finds
module _ (node : ℕ) (rec : NodeRec) (named : Option (List ℕ)) (old : Sessions) (pid : List ℕ) (names : Some pid ≡ named) (session : seen.SessionState) (is : unwrap_or (fin.get old pid) seen.Absent ≡ session) where
  -- where the record is allowed in the sessions, it is allowed of its session
  pub allowed_there : IsSome (sessions_after node rec named old) → IsSome (session_after node rec session)
  allowed_there allowed = grind arith

  -- what the record makes of its session is put back in the sessions
  pub changed_there : (next : seen.SessionState) (new : Sessions) → session_after node rec session ≡ Some next → new ≡ fin.insert old pid next → sessions_after node rec named old ≡ Some new
  changed_there next new becomes put = grind arith
