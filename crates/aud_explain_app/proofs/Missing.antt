-- Which pid no session has.
use Rattle.std.proofs.Common.{◌≡◌, ◌<◌, ◌+◌, ◌++◌, ◌||◌, ℕ, zero, suc, Bool, true, false, cond, List, [], ◌∷◌, length, take, get_or, Option, Some, None, is_some, option_map, slice_get, Bor, option_copied, refl, sym, ap, ◌∙◌, arith}
use Rattle.std.specs.Prelude.{Result, Ok, Err}
use Rattle.std.specs.Option.{option_and_then, option_map_or}
use Rattle.std.proofs.lemmas.List.{take_more}
use Rattle.std.proofs.lemmas.Option.{none-some}
use Rattle.aud_node.proofs.NameLemmas.{first-place}
use Rattle.aud_node.specs.Cluster.{Cluster}
use Rattle.aud_node.specs.Lists.{first_index}
use Rattle.aud_node.specs.Stream.{Text}
use Rattle.aud_maker.specs.Sessions.{sessions_of}
use Rattle.aud_session_facts.specs.Recoveries.{recoveries_of}
use Rattle.aud_verdict.specs.declared.verdict.SessionVerdict.{SessionVerdict}
use Rattle.aud_verdict.specs.Verdicts.{AreVerdicts}
use Rattle.aud_explain_app.specs.Chosen.{is_of, session_of}
use Rattle.aud_explain_app.specs.Missing.{pids_known}
use Rattle.aud_explain_app.specs.Strangers.{AreAdded, asked_in_vain, has_pid, pids_of, with_pids}
use Rattle.aud_explain_app.specs.declared.fault.Unexplained.{Unexplained}
use Rattle.aud_explain_app.specs.declared.fault.Unexplained.TheVariants.{Unread, Memory, Spawn, NoSession}

-- ---- the first that passes

map_none : (o : Option ℕ) → option_map suc o ≡ None → o ≡ None
map_none None e = refl
map_none (Some n) e = absurd (none-some (suc n) (sym e))

module _ {X : Type 0} (p : X → Bool) where
  none_append : (xs ys : List X) → first_index p xs ≡ None → first_index p ys ≡ None → first_index p (xs ++ ys) ≡ None
  none_append [] ys none last = last
  none_append (x ∷ xs) ys none last = go (p x) none (λ none. none_append xs ys none last)
    where
      go : (b : Bool) → cond b (Some 0) (option_map suc (first_index p xs)) ≡ None → (first_index p xs ≡ None → first_index p (xs ++ ys) ≡ None)
          → cond b (Some 0) (option_map suc (first_index p (xs ++ ys))) ≡ None
      go true e rest = absurd (none-some 0 (sym e))
      go false e rest = ap (option_map suc) (rest (map_none (first_index p xs) e))

  -- none of the elements so far, and not the next one
  pub none_more : (xs : List X) (i : ℕ) (d : X) → i < length xs → first_index p (take i xs) ≡ None → p (get_or xs i d) ≡ false → first_index p (take (i + 1) xs) ≡ None
  none_more xs i d h none here =
      ap (first_index p) (take_more xs i d h) ∙ none_append (take i xs) (get_or xs i d ∷ []) none (ap (λ b. cond b (Some 0) (option_map suc (first_index p []))) here)

  -- none of the elements so far, but the next one
  pub first_here : (xs : List X) (i : ℕ) (d : X) → i < length xs → first_index p (take i xs) ≡ None → p (get_or xs i d) ≡ true → first_index p xs ≡ Some i
  first_here [] i d h none here = absurd (omega arith)
  first_here (x ∷ xs) zero d h none here = ap (λ b. cond b (Some 0) (option_map suc (first_index p xs))) here
  first_here (x ∷ xs) (suc i) d h none here = go (p x) none (λ none. first_here xs i d (omega arith) none here)
    where
      go : (b : Bool) → cond b (Some 0) (option_map suc (first_index p (take i xs))) ≡ None → (first_index p (take i xs) ≡ None → first_index p xs ≡ Some i)
          → cond b (Some 0) (option_map suc (first_index p xs)) ≡ Some (suc i)
      go true e rest = absurd (none-some 0 (sym e))
      go false e rest = ap (option_map suc) (rest (map_none (first_index p (take i xs)) e))

-- ---- the session with a pid

found : (sessions : List SessionVerdict) (pid : Text) → is_some (option_and_then (slice_get sessions) (first_index (is_of pid) sessions)) ≡ has_pid (pids_of sessions) pid
found [] pid = refl
found (x ∷ xs) pid = go (is_of pid x) (found xs pid)
  where
    later : (o : Option ℕ) → is_some (option_and_then (slice_get (x ∷ xs)) (option_map suc o)) ≡ is_some (option_and_then (slice_get xs) o)
    later None = refl
    later (Some n) = refl

    go : (b : Bool) → is_some (option_and_then (slice_get xs) (first_index (is_of pid) xs)) ≡ has_pid (pids_of xs) pid
        → is_some (option_and_then (slice_get (x ∷ xs)) (cond b (Some 0) (option_map suc (first_index (is_of pid) xs)))) ≡ (b || has_pid (pids_of xs) pid)
    go true rest = refl
    go false rest = later (first_index (is_of pid) xs) ∙ rest

-- there is a session with the pid where the pids have it
pub has_session : (sessions : List SessionVerdict) (pid : Text) → is_some (session_of sessions pid) ≡ has_pid (pids_of sessions) pid
has_session sessions pid =
    ap (λ o. is_some (option_and_then (slice_get sessions) o))
    (first-place (is_of pid) (λ k. option_map_or (is_of pid) (slice_get sessions k) false) sessions (λ k x is. ap (λ o. option_map_or (is_of pid) o false) is))
    ∙ found sessions pid

-- what was found of a pid tells whether the pids have it
pub has_found : (sessions : List SessionVerdict) (pid : Text) (found there : Option (Bor SessionVerdict)) → option_copied found ≡ session_of sessions pid → found ≡ there
    → has_pid (pids_of sessions) pid ≡ is_some (option_copied there)
has_found sessions pid found there is at = sym (has_session sessions pid) ∙ ap is_some (sym is ∙ ap option_copied at)

-- the pids of the verdicts on sessions are those of the sessions
pub verdict_pids : (c : Cluster) (whole : Bool) (pids : List Text) (verdicts : List SessionVerdict) → AreVerdicts c whole pids verdicts → pids_of verdicts ≡ pids
verdict_pids c whole [] [] are = refl
verdict_pids c whole [] (v ∷ verdicts) are = absurd are
verdict_pids c whole (pid ∷ pids) [] are = absurd are
verdict_pids c whole (pid ∷ pids) (v ∷ verdicts) are = ap (λ p. p ∷ pids_of verdicts) are.0.0 ∙ ap (λ ps. pid ∷ ps) (verdict_pids c whole pids verdicts are.1)

-- so the pids of all sessions are those that are known
pub known_pids : (c : Cluster) (whole : Bool) (verdicts sessions : List SessionVerdict) → AreVerdicts c whole (sessions_of c) verdicts
    → AreAdded c whole (asked_in_vain c (recoveries_of c)) verdicts sessions → pids_of sessions ≡ pids_known c
known_pids c whole verdicts sessions are added =
    added.are_asked ∙ ap (λ pids. with_pids pids (asked_in_vain c (recoveries_of c))) (verdict_pids c whole (sessions_of c) verdicts are)

-- ---- faults

abbrev fault_of : {T : Type 0} → Result T Unexplained → Unexplained
fault_of (Ok x) = Memory
fault_of (Err fault) = fault

abbrev number_of : Unexplained → ℕ
number_of (Unread file) = file
number_of Memory = 0
number_of Spawn = 0
number_of (NoSession number) = number

-- a result has one fault
pub same_fault : {T : Type 0} (r : Result T Unexplained) (y z : Unexplained) → r ≡ Err y → r ≡ Err z → y ≡ z
same_fault r y z first next = ap fault_of (sym first ∙ next)

-- a fault has one number
pub same_number : (m n : ℕ) → NoSession m ≡ NoSession n → m ≡ n
same_number m n e = ap number_of e
