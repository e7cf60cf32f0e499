-- The index of sessions by their pids.
use Rattle.std.proofs.Common.{◌≡◌, ◌<◌, ◌+◌, ◌++◌, ℕ, zero, suc, Bool, true, false, cond, ◌||◌, List, [], ◌∷◌, length, get_or, filter, Option, Some, None, option_map, is_some, slice_get, bytes_eq, eqb, refl, sym, ap, ◌∙◌, length-append, arith}
use Rattle.std.specs.Option.{option_and_then, option_map_or}
use Rattle.std.proofs.lemmas.Bool.{eqb-true}
use Rattle.std.proofs.lemmas.List.{nil_from_length}
use Rattle.aud_base.specs.declared.places.Places.{Places}
use Rattle.aud_base.specs.Places.{noted, numbers_from, places_of, places_where}
use Rattle.aud_base.proofs.NotedPlaces.{noted-at}
use Rattle.aud_node.proofs.NameLemmas.{first-place}
use Rattle.aud_node.specs.Lists.{first_index}
use Rattle.aud_node.specs.Stream.{Text}
use Rattle.aud_verdict.specs.declared.verdict.SessionVerdict.{SessionVerdict}
use Rattle.aud_explain_app.specs.Chosen.{IsIndex, is_of}
use Rattle.aud_explain_app.specs.Strangers.{has_pid, pids_of}
use Rattle.aud_explain_app.proofs.Missing.{has_session}

-- two tests that agree on consecutive numbers pass the same of them
filter-same : (p q : ℕ → Bool) (first count : ℕ) → ((k : ℕ) → k < first + count → p k ≡ q k) → filter p (numbers_from first count) ≡ filter q (numbers_from first count)
filter-same p q first zero same = refl
filter-same p q first (suc count) same =
    ap (λ b. cond b (first ∷ filter p (numbers_from (suc first) count)) (filter p (numbers_from (suc first) count))) (same first (omega arith))
    ∙ ap (λ ns. cond (q first) (first ∷ ns) ns) (filter-same p q (suc first) count (λ k h. same k (omega (arith, h))))

-- an element stands where it stood before others came after it
get-front : {X : Type 0} (xs ys : List X) (k : ℕ) → k < length xs → slice_get (xs ++ ys) k ≡ slice_get xs k
get-front [] ys k h = absurd (omega arith)
get-front (x ∷ xs) ys zero h = refl
get-front (x ∷ xs) ys (suc k) h = get-front xs ys k (omega arith)

-- the last element stands behind all others
last-read : {X : Type 0} (xs : List X) (x : X) → x ≡ get_or (xs ++ x ∷ []) (length xs) x
last-read [] x = refl
last-read (y ∷ ys) x = last-read ys x

-- one more session is noted
pub index-more : (old new : Places) (sessions : List SessionVerdict) (s : SessionVerdict) (n : ℕ) → IsIndex old sessions → n ≡ length sessions
    → ((q : Text) → places_of new q ≡ noted n (bytes_eq s.pid q) (places_of old q)) → IsIndex new (sessions ++ s ∷ [])
index-more old new sessions s n was count more = λ q.
    let all = sessions ++ s ∷ [] in
    let p = λ (o : Option SessionVerdict). option_map_or (is_of q) o false in
    let one = length-append sessions (s ∷ []) in
    let within : length sessions < length all = omega (arith, one) in
    let size : length sessions + 1 ≡ length all = omega (arith, one) in
    let before : places_of old q ≡ places_where (λ k. p (slice_get all k)) (length sessions) =
    was q ∙ filter-same (λ k. p (slice_get sessions k)) (λ k. p (slice_get all k)) 0 (length sessions) (λ k h. ap p (sym (get-front sessions (s ∷ []) k (omega (arith, h))))) in
    let after : places_of new q ≡ noted (length sessions) (p (Some s)) (places_of old q) = more q ∙ ap (λ m. noted m (bytes_eq s.pid q) (places_of old q)) count in
    noted-at p all (length sessions) s (places_of old q) (places_of new q) within (last-read sessions s) before after
    ∙ ap (places_where (λ k. p (slice_get all k))) size

-- the first of the sessions with the pid is there where the pids have it
first_found : (xs : List SessionVerdict) (pid : Text) → is_some (first_index (is_of pid) xs) ≡ has_pid (pids_of xs) pid
first_found [] pid = refl
first_found (x ∷ xs) pid = go (is_of pid x) (first_found xs pid)
  where
    later : (o : Option ℕ) → is_some (option_map suc o) ≡ is_some o
    later None = refl
    later (Some n) = refl

    go : (b : Bool) → is_some (first_index (is_of pid) xs) ≡ has_pid (pids_of xs) pid
        → is_some (cond b (Some 0) (option_map suc (first_index (is_of pid) xs))) ≡ (b || has_pid (pids_of xs) pid)
    go true rest = refl
    go false rest = later (first_index (is_of pid) xs) ∙ rest

-- a pid at which the index has a number is one of these
pub indexed : (index : Places) (sessions : List SessionVerdict) (pid : Text) → IsIndex index sessions → eqb (length (places_of index pid)) 0 ≡ false → has_pid (pids_of sessions) pid ≡ true
indexed index sessions pid is some =
    sym (ap (λ ns. is_some (slice_get ns 0)) (is pid)
    ∙ ap is_some (first-place (is_of pid) (λ k. option_map_or (is_of pid) (slice_get sessions k) false) sessions (λ k x at. ap (λ o. option_map_or (is_of pid) o false) at))
    ∙ first_found sessions pid) ∙ go (places_of index pid) some
  where
    go : (places : List ℕ) → eqb (length places) 0 ≡ false → is_some (slice_get places 0) ≡ true
    go [] none = absurd (cc)
    go (x ∷ xs) some = refl

-- a pid at which the index has no number is none of these
pub not_indexed : (index : Places) (sessions : List SessionVerdict) (pid : Text) → IsIndex index sessions → eqb (length (places_of index pid)) 0 ≡ true → has_pid (pids_of sessions) pid ≡ false
not_indexed index sessions pid is none =
    let nothing : places_of index pid ≡ [] = nil_from_length (places_of index pid) (eqb-true (length (places_of index pid)) 0 none) in
    sym (has_session sessions pid) ∙ ap (λ ns. is_some (option_and_then (slice_get sessions) (slice_get ns 0))) (sym (is pid) ∙ nothing)
