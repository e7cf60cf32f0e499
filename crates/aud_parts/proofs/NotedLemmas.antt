-- The taps of an index, with one line more.
use Rattle.std.proofs.Common.{◌≡◌, ℕ, zero, suc, ◌==◌, ◌&&◌, List, [], ◌∷◌, ◌++◌, length, map, set, Bool, true, false, cond, ◌⊎◌, inl, inr, Option, Some, None, option_map, is_some, slice_get, bytes_eq, refl, sym, ap, ◌∙◌, subst, arith, ◌||◌}
use Rattle.std.specs.List.{list_any}
use Rattle.std.specs.Option.{option_and_then, option_map_or}
use Rattle.std.proofs.lemmas.Bool.{and_parts, eqb-true, false≢true}
use Rattle.std.proofs.lemmas.List.{map-append}
use Rattle.std.proofs.lemmas.Option.{none-some, same_Some}
use Rattle.std.specs.Cmp.Lexicographic.{nat_list_eq_equiv}
use Rattle.aud_base.specs.FirstTexts.{with_text}
use Rattle.aud_base.specs.Places.{with_place, noted as place_noted}
use Rattle.aud_base.proofs.Lists.{after_these}
use Rattle.aud_base.proofs.SameText.{same_text, itself_text}
use Rattle.aud_tap.specs.Names.{first_index}
use Rattle.aud_parts.specs.declared.tap_index.tap_runs.Run.{Run}
use Rattle.aud_parts.specs.TapRuns.{TapRuns}
use Rattle.aud_parts.specs.IndexSoFar.{Noted, AreOnce, changed, longer, noted, noted_at, one_or_two, place_in, with_run}

-- ---- the runs with a line more

-- after a last run
pub longer-last : (goes_on : Bool) (line : Run) (runs : List Run) (last : Run) → longer goes_on line (runs ++ last ∷ []) ≡ runs ++ one_or_two (goes_on && (last.file == line.file)) last line
longer-last goes_on line [] last = refl
longer-last goes_on line (run ∷ []) last = refl
longer-last goes_on line (run ∷ next ∷ runs) last = ap (λ rs. run ∷ rs) (longer-last goes_on line (next ∷ runs) last)

-- the last of these runs
unfoldable pub last_of : List Run → Option Run
last_of [] = None
last_of (run ∷ []) = Some run
last_of (run ∷ next ∷ runs) = last_of (next ∷ runs)

pub last_of-push : (runs : List Run) (run : Run) → last_of (runs ++ run ∷ []) ≡ Some run
unfolding last_of
last_of-push [] run = refl
last_of-push (x ∷ []) run = refl
last_of-push (x ∷ y ∷ runs) run = last_of-push (y ∷ runs) run

-- the last run goes on
pub record GoesOn (goes_on : Bool) (line : Run) (runs : List Run) : Type 0 where
  pub front : List Run
  pub run : Run
  pub are : runs ≡ front ++ run ∷ []
  pub last : last_of runs ≡ Some run
  pub may : goes_on ≡ true
  pub in_file : run.file ≡ line.file
  pub with_line : longer goes_on line runs ≡ front ++ record run { to = line.to } ∷ []

-- the line is a run of its own, or the last run goes on
pub longer-is : (goes_on : Bool) (line : Run) (runs : List Run) → (longer goes_on line runs ≡ runs ++ line ∷ []) ⊎ GoesOn goes_on line runs
unfolding last_of
longer-is goes_on line [] = inl refl
longer-is goes_on line (run ∷ []) = go (goes_on && (run.file == line.file)) refl
  where
    go : (b : Bool) → (goes_on && (run.file == line.file)) ≡ b → (one_or_two (goes_on && (run.file == line.file)) run line ≡ run ∷ line ∷ []) ⊎ GoesOn goes_on line (run ∷ [])
    go true e =
        let parts = and_parts goes_on (run.file == line.file) e in
        inr (record { front = []; run = run; are = refl; last = refl; may = parts.0; in_file = eqb-true run.file line.file parts.1; with_line = ap (λ b. one_or_two b run line) e })
    go false e = inl (ap (λ b. one_or_two b run line) e)
longer-is goes_on line (run ∷ next ∷ runs) = go (longer-is goes_on line (next ∷ runs))
  where
    go : (longer goes_on line (next ∷ runs) ≡ (next ∷ runs) ++ line ∷ []) ⊎ GoesOn goes_on line (next ∷ runs)
        → (run ∷ longer goes_on line (next ∷ runs) ≡ run ∷ (next ∷ runs) ++ line ∷ []) ⊎ GoesOn goes_on line (run ∷ next ∷ runs)
    go (inl e) = inl (ap (λ rs. run ∷ rs) e)
    go (inr g) =
        inr (record { front = run ∷ g.front; run = g.run; are = ap (λ rs. run ∷ rs) g.are; last = g.last; may = g.may; in_file = g.in_file; with_line = ap (λ rs. run ∷ rs) g.with_line })

-- ---- places

-- that of the tap whose line came last
pub last-place : (taps : List TapRuns) (last : ℕ) (name : List ℕ) → AreOnce taps → option_map_or (λ (tap : TapRuns). bytes_eq tap.name name) (slice_get taps last) false ≡ true → place_in taps name ≡ Some last
last-place taps last name once e = go (slice_get taps last) refl e
  where
    go : (o : Option TapRuns) → slice_get taps last ≡ o → option_map_or (λ (tap : TapRuns). bytes_eq tap.name name) o false ≡ true → place_in taps name ≡ Some last
    go None is e = absurd (false≢true e)
    go (Some tap) is e = ap (place_in taps) (sym (same_text tap.name name e)) ∙ once last tap is

index-push-some : {X : Type 0} (p : X → Bool) (xs : List X) (x : X) (i : ℕ) → first_index p xs ≡ Some i → first_index p (xs ++ x ∷ []) ≡ Some i
index-push-some p [] x i e = absurd (none-some i e)
index-push-some p (y ∷ ys) x i e = go (p y) (first_index p ys) refl e (index-push-some p ys x)
  where
    go : (b : Bool) (o : Option ℕ) → first_index p ys ≡ o → cond b (Some 0) (option_map suc o) ≡ Some i → ((j : ℕ) → first_index p ys ≡ Some j → first_index p (ys ++ x ∷ []) ≡ Some j)
        → cond b (Some 0) (option_map suc (first_index p (ys ++ x ∷ []))) ≡ Some i
    go true o is at ih = at
    go false None is at ih = absurd (none-some i at)
    go false (Some j) is at ih = ap (option_map suc) (ih j is) ∙ at

index-push-none : {X : Type 0} (p : X → Bool) (xs : List X) (x : X) → first_index p xs ≡ None → first_index p (xs ++ x ∷ []) ≡ cond (p x) (Some (length xs)) None
index-push-none p [] x e = refl
index-push-none p (y ∷ ys) x e = go (p y) (first_index p ys) refl e (index-push-none p ys x)
  where
    push : (b : Bool) → option_map suc (cond b (Some (length ys)) None) ≡ cond b (Some (suc (length ys))) None
    push true = refl
    push false = refl

    go : (b : Bool) (o : Option ℕ) → first_index p ys ≡ o → cond b (Some 0) (option_map suc o) ≡ None → (first_index p ys ≡ None → first_index p (ys ++ x ∷ []) ≡ cond (p x) (Some (length ys)) None)
        → cond b (Some 0) (option_map suc (first_index p (ys ++ x ∷ []))) ≡ cond (p x) (Some (suc (length ys))) None
    go true o is at ih = absurd (none-some 0 (sym at))
    go false None is at ih = ap (option_map suc) (ih is) ∙ push (p x)
    go false (Some j) is at ih = absurd (none-some (suc j) (sym at))

-- the element at a place of a list with one more
get-push : {X : Type 0} (xs : List X) (x y : X) (i : ℕ) → slice_get (xs ++ x ∷ []) i ≡ Some y → (slice_get xs i ≡ Some y) ⊎ ((i ≡ length xs) × (x ≡ y))
get-push [] x y zero e = inr (refl, same_Some x y e)
get-push [] x y (suc i) e = absurd (none-some y e)
get-push (z ∷ zs) x y zero e = inl e
get-push (z ∷ zs) x y (suc i) e = go (get-push zs x y i e)
  where
    go : (slice_get zs i ≡ Some y) ⊎ ((i ≡ length zs) × (x ≡ y)) → (slice_get zs i ≡ Some y) ⊎ ((suc i ≡ suc (length zs)) × (x ≡ y))
    go (inl at) = inl at
    go (inr last) = inr (ap suc last.0, last.1)

first-is : (b : Bool) (o : Option ℕ) → cond b (Some 0) (option_map suc o) ≡ Some 0 → b ≡ true
first-is true o e = refl
first-is false None e = absurd (none-some 0 e)
first-is false (Some j) e = let same : suc j ≡ 0 = same_Some (suc j) 0 e in absurd (omega (arith, same))

later-is : (b : Bool) (o : Option ℕ) (i : ℕ) → cond b (Some 0) (option_map suc o) ≡ Some (suc i) → (b ≡ false) × (o ≡ Some i)
later-is true o i e = let same : 0 ≡ suc i = same_Some 0 (suc i) e in absurd (omega (arith, same))
later-is false None i e = absurd (none-some (suc i) e)
later-is false (Some j) i e =
    let same : suc j ≡ suc i = same_Some (suc j) (suc i) e in
    let is : j ≡ i = omega (arith, same) in
    (refl, ap Some is)

none-is : (b : Bool) (o : Option ℕ) → cond b (Some 0) (option_map suc o) ≡ None → (b ≡ false) × (o ≡ None)
none-is true o e = absurd (none-some 0 (sym e))
none-is false None e = (refl, refl)
none-is false (Some i) e = absurd (none-some (suc i) (sym e))

-- a tap stands at the place of its name
pub place-there : (ts : List TapRuns) (name : List ℕ) (i : ℕ) → place_in ts name ≡ Some i → (t : TapRuns) × (slice_get ts i ≡ Some t)
place-there [] name i e = absurd (none-some i e)
place-there (t ∷ ts) name zero e = (t, refl)
place-there (t ∷ ts) name (suc i) e = place-there ts name i (later-is _ _ i e).1

-- ---- a new tap

pub once-push : (ts : List TapRuns) (t : TapRuns) → place_in ts t.name ≡ None → AreOnce ts → AreOnce (ts ++ t ∷ [])
once-push ts t new once = λ place tap at. go place tap (get-push ts t tap place at)
  where
    go : (place : ℕ) (tap : TapRuns) → (slice_get ts place ≡ Some tap) ⊎ ((place ≡ length ts) × (t ≡ tap)) → place_in (ts ++ t ∷ []) tap.name ≡ Some place
    go place tap (inl at) = index-push-some (λ (u : TapRuns). bytes_eq u.name tap.name) ts t place (once place tap at)
    go place tap (inr last) =
        ap (λ (u : TapRuns). place_in (ts ++ t ∷ []) u.name) (sym last.1)
        ∙ index-push-none (λ (u : TapRuns). bytes_eq u.name t.name) ts t new
        ∙ ap (λ b. cond b (Some (length ts)) None) (itself_text t.name)
        ∙ ap Some (sym last.0)

-- a name that isn't that of the new tap
place-other : (ts : List TapRuns) (t : TapRuns) (text : List ℕ) (o : Option ℕ) → place_in ts text ≡ o → bytes_eq t.name text ≡ false → place_in (ts ++ t ∷ []) text ≡ place_in ts text
place-other ts t text None at other = index-push-none (λ (u : TapRuns). bytes_eq u.name text) ts t at ∙ ap (λ b. cond b (Some (length ts)) None) other ∙ sym at
place-other ts t text (Some i) at other = index-push-some (λ (u : TapRuns). bytes_eq u.name text) ts t i at ∙ sym at

-- a list without a first element is empty
nothing-first : (xs : List ℕ) → slice_get xs 0 ≡ None → xs ≡ []
nothing-first [] e = refl
nothing-first (x ∷ xs) e = absurd (none-some x (sym e))

-- the places by name, with the new tap's put in
pub places-push : (ts : List TapRuns) (t : TapRuns) (text name old new : List ℕ) → t.name ≡ name → place_in ts name ≡ None → slice_get old 0 ≡ place_in ts text → new ≡ place_noted (length ts) (bytes_eq name text) old
    → slice_get new 0 ≡ place_in (ts ++ t ∷ []) text
places-push ts t text name old new named first before after = go (bytes_eq name text) refl
  where
    go : (b : Bool) → bytes_eq name text ≡ b → slice_get new 0 ≡ place_in (ts ++ t ∷ []) text
    go true e =
        let same : name ≡ text = same_text name text e in
        let none : place_in ts text ≡ None = ap (place_in ts) (sym same) ∙ first in
        let empty : old ≡ [] = nothing-first old (before ∙ none) in
        let is : new ≡ length ts ∷ [] = after ∙ ap (λ b. place_noted (length ts) b old) e ∙ ap (with_place (length ts)) empty in
        ap (λ xs. slice_get xs 0) is
        ∙ sym (index-push-none (λ (u : TapRuns). bytes_eq u.name text) ts t none ∙ ap (λ b. cond b (Some (length ts)) None) (ap (λ n. bytes_eq n text) named ∙ e))
    go false e =
        let is : new ≡ old = after ∙ ap (λ b. place_noted (length ts) b old) e in
        ap (λ xs. slice_get xs 0) is ∙ before ∙ sym (place-other ts t text (place_in ts text) refl (ap (λ n. bytes_eq n text) named ∙ e))

-- ---- a tap that is there

pub changed-set : {X : Type 0} (f : X → X) (xs : List X) (i : ℕ) (x : X) → slice_get xs i ≡ Some x → set xs i (f x) ≡ changed f xs i
changed-set f [] i x e = absurd (none-some x e)
changed-set f (y ∷ ys) zero x e = ap (λ z. f z ∷ ys) (sym (same_Some y x e))
changed-set f (y ∷ ys) (suc i) x e = ap (λ zs. y ∷ zs) (changed-set f ys i x e)

changed-at : {X : Type 0} (f : X → X) (xs : List X) (i : ℕ) (x : X) → slice_get xs i ≡ Some x → slice_get (changed f xs i) i ≡ Some (f x)
changed-at f [] i x e = absurd (none-some x e)
changed-at f (y ∷ ys) zero x e = ap (λ z. Some (f z)) (same_Some y x e)
changed-at f (y ∷ ys) (suc i) x e = changed-at f ys i x e

-- the taps' names, with a line more at a place
module _ (goes_on : Bool) (line : Run) where
  pub place-changed : (ts : List TapRuns) (i : ℕ) (name : List ℕ) → place_in (changed (with_run goes_on line) ts i) name ≡ place_in ts name
  place-changed [] i name = refl
  place-changed (t ∷ ts) zero name = refl
  place-changed (t ∷ ts) (suc i) name = ap (λ o. cond (bytes_eq t.name name) (Some 0) (option_map suc o)) (place-changed ts i name)

  pub names-changed : (ts : List TapRuns) (i : ℕ) → map (λ (t : TapRuns). t.name) (changed (with_run goes_on line) ts i) ≡ map (λ (t : TapRuns). t.name) ts
  names-changed [] i = refl
  names-changed (t ∷ ts) zero = refl
  names-changed (t ∷ ts) (suc i) = ap (λ ns. t.name ∷ ns) (names-changed ts i)

  named-changed : (ts : List TapRuns) (i place : ℕ) (tap : TapRuns) → slice_get (changed (with_run goes_on line) ts i) place ≡ Some tap → (t : TapRuns) × (slice_get ts place ≡ Some t) × (t.name ≡ tap.name)
  named-changed [] i place tap e = absurd (none-some tap e)
  named-changed (t ∷ ts) zero zero tap e = (t, refl, ap (λ (u : TapRuns). u.name) (same_Some (with_run goes_on line t) tap e))
  named-changed (t ∷ ts) zero (suc place) tap e = (tap, e, refl)
  named-changed (t ∷ ts) (suc i) zero tap e = (t, refl, ap (λ (u : TapRuns). u.name) (same_Some t tap e))
  named-changed (t ∷ ts) (suc i) (suc place) tap e = named-changed ts i place tap e

  pub once-changed : (ts : List TapRuns) (i : ℕ) → AreOnce ts → AreOnce (changed (with_run goes_on line) ts i)
  once-changed ts i once = λ place tap at.
      let was = named-changed ts i place tap at in
      place-changed ts i tap.name ∙ ap (place_in ts) (sym was.2) ∙ once place was.0 was.1

-- ---- the runs of a name

unfoldable pub runs_by : List ℕ → List TapRuns → List Run
runs_by name [] = []
runs_by name (t ∷ ts) = cond (bytes_eq t.name name) t.runs (runs_by name ts)

-- the runs of the tap at the place of a name
pub runs_by-at : (name : List ℕ) (ts : List TapRuns) (i : ℕ) (t : TapRuns) → place_in ts name ≡ Some i → slice_get ts i ≡ Some t → runs_by name ts ≡ t.runs
unfolding runs_by
runs_by-at name [] i t e at = absurd (none-some i e)
runs_by-at name (u ∷ us) zero t e at =
    ap (λ b. cond b u.runs (runs_by name us)) (first-is _ _ e) ∙ ap (λ (v : TapRuns). v.runs) (same_Some u t at)
runs_by-at name (u ∷ us) (suc i) t e at =
    let later = later-is _ _ i e in
    ap (λ b. cond b u.runs (runs_by name us)) later.0 ∙ runs_by-at name us i t later.1 at

runs_by-none : (name : List ℕ) (ts : List TapRuns) → place_in ts name ≡ None → runs_by name ts ≡ []
unfolding runs_by
runs_by-none name [] e = refl
runs_by-none name (t ∷ ts) e =
    let parts = none-is _ _ e in
    ap (λ b. cond b t.runs (runs_by name ts)) parts.0 ∙ runs_by-none name ts parts.1

runs_by-push : (q name : List ℕ) (line : Run) (ts : List TapRuns) → place_in ts name ≡ None
    → runs_by q (ts ++ record { name = name; runs = line ∷ [] } ∷ []) ≡ cond (bytes_eq name q) (line ∷ []) (runs_by q ts)
unfolding runs_by
runs_by-push q name line [] e = refl
runs_by-push q name line (t ∷ ts) e =
    let parts = none-is _ _ e in
    ap (cond (bytes_eq t.name q) t.runs) (runs_by-push q name line ts parts.1) ∙ go (bytes_eq t.name q) (bytes_eq name q) refl refl parts.0
  where
    go : (b c : Bool) → bytes_eq t.name q ≡ b → bytes_eq name q ≡ c → bytes_eq t.name name ≡ false
        → cond b t.runs (cond c (line ∷ []) (runs_by q ts)) ≡ cond c (line ∷ []) (cond b t.runs (runs_by q ts))
    go true true one other differ = absurd (false≢true (sym differ ∙ ap (bytes_eq t.name) (same_text name q other) ∙ one))
    go true false one other differ = refl
    go false true one other differ = refl
    go false false one other differ = refl

runs_by-changed : (q name : List ℕ) (goes_on : Bool) (line : Run) (ts : List TapRuns) (i : ℕ) → place_in ts name ≡ Some i
    → runs_by q (changed (with_run goes_on line) ts i) ≡ cond (bytes_eq name q) (longer goes_on line (runs_by q ts)) (runs_by q ts)
unfolding runs_by
runs_by-changed q name goes_on line [] i e = absurd (none-some i e)
runs_by-changed q name goes_on line (t ∷ ts) zero e =
    let same : t.name ≡ name = same_text t.name name (first-is _ _ e) in
    go (bytes_eq t.name q) ∙ ap (λ n. cond (bytes_eq n q) (longer goes_on line (cond (bytes_eq t.name q) t.runs (runs_by q ts))) (cond (bytes_eq t.name q) t.runs (runs_by q ts))) same
  where
    go : (b : Bool) → cond b (longer goes_on line t.runs) (runs_by q ts) ≡ cond b (longer goes_on line (cond b t.runs (runs_by q ts))) (cond b t.runs (runs_by q ts))
    go true = refl
    go false = refl
runs_by-changed q name goes_on line (t ∷ ts) (suc i) e =
    let later = later-is _ _ i e in
    ap (cond (bytes_eq t.name q) t.runs) (runs_by-changed q name goes_on line ts i later.1) ∙ go (bytes_eq t.name q) (bytes_eq name q) refl refl later.0
  where
    go : (b c : Bool) → bytes_eq t.name q ≡ b → bytes_eq name q ≡ c → bytes_eq t.name name ≡ false
        → cond b t.runs (cond c (longer goes_on line (runs_by q ts)) (runs_by q ts)) ≡ cond c (longer goes_on line (cond b t.runs (runs_by q ts))) (cond b t.runs (runs_by q ts))
    go true true one other differ = absurd (false≢true (sym differ ∙ ap (bytes_eq t.name) (same_text name q other) ∙ one))
    go true false one other differ = refl
    go false true one other differ = refl
    go false false one other differ = refl

-- a name without runs
runs_by-own : (ts : List TapRuns) (name : List ℕ) (line : Run) → place_in ts name ≡ None → (q : List ℕ) (b : Bool) → bytes_eq name q ≡ b
    → cond b (longer false line (runs_by q ts)) (runs_by q ts) ≡ cond b (line ∷ []) (runs_by q ts)
runs_by-own ts name line none q true same = ap (longer false line) (ap (λ n. runs_by n ts) (sym (same_text name q same)) ∙ runs_by-none name ts none)
runs_by-own ts name line none q false same = refl

-- ---- one line more

-- the last run of the tap whose line came last
unfoldable pub last_run : Noted → Option Run
last_run s = option_and_then (λ (t : TapRuns). last_of t.runs) (slice_get s.taps s.last)

-- what a line of this name changes
pub record Grows (s : Noted) (name : List ℕ) (line : Run) : Type 0 where
  pub goes_on : Bool
  pub runs : (q : List ℕ) → runs_by q (noted s name line).taps ≡ cond (bytes_eq name q) (longer goes_on line (runs_by q s.taps)) (runs_by q s.taps)
  pub last : last_run (noted s name line) ≡ last_of (longer goes_on line (runs_by name s.taps))
  pub before : goes_on ≡ true → last_run s ≡ last_of (runs_by name s.taps)
  pub names : map (λ (t : TapRuns). t.name) (noted s name line).taps ≡ with_text (map (λ (t : TapRuns). t.name) s.taps) name
  pub once : AreOnce (noted s name line).taps

some-suc : (o : Option ℕ) → is_some (option_map suc o) ≡ is_some o
some-suc None = refl
some-suc (Some i) = refl

-- there is a place where there is the name
place-any : (ts : List TapRuns) (name : List ℕ) → is_some (place_in ts name) ≡ list_any (bytes_eq name) (map (λ (t : TapRuns). t.name) ts)
place-any [] name = refl
place-any (t ∷ ts) name =
    go (bytes_eq t.name name) (place-any ts name) ∙ ap (λ b. b || list_any (bytes_eq name) (map (λ (u : TapRuns). u.name) ts)) (nat_list_eq_equiv.symm t.name name)
  where
    go : (b : Bool) → is_some (place_in ts name) ≡ list_any (bytes_eq name) (map (λ (u : TapRuns). u.name) ts)
        → is_some (cond b (Some 0) (option_map suc (place_in ts name))) ≡ b || list_any (bytes_eq name) (map (λ (u : TapRuns). u.name) ts)
    go true ih = refl
    go false ih = some-suc (place_in ts name) ∙ ih

pub grows : (s : Noted) (name : List ℕ) (line : Run) → AreOnce s.taps → Grows s name line
unfolding last_of runs_by last_run
grows s name line once = go (place_in s.taps name) refl
  where
    go : (o : Option ℕ) → place_in s.taps name ≡ o → Grows s name line
    go None e =
        let is : noted s name line ≡ noted_at None s name line = ap (λ o. noted_at o s name line) e in
        let t : TapRuns = record { name = name; runs = line ∷ [] } in
        let none = runs_by-none name s.taps e in
        let unknown : list_any (bytes_eq name) (map (λ (u : TapRuns). u.name) s.taps) ≡ false = sym (place-any s.taps name) ∙ ap is_some e in
        record {
          goes_on = false;
          runs = λ q. ap (λ (n : Noted). runs_by q n.taps) is ∙ runs_by-push q name line s.taps e ∙ sym (runs_by-own s.taps name line e q (bytes_eq name q) refl);
          last = ap last_run is ∙ ap (λ o. option_and_then (λ (u : TapRuns). last_of u.runs) o) (after_these s.taps [] t) ∙ sym (ap (λ rs. last_of (longer false line rs)) none);
          before = λ may. absurd (false≢true may);
          names = ap (λ (n : Noted). map (λ (u : TapRuns). u.name) n.taps) is ∙ map-append (λ (u : TapRuns). u.name) s.taps (t ∷ [])
              ∙ sym (ap (λ b. cond b (map (λ (u : TapRuns). u.name) s.taps) (map (λ (u : TapRuns). u.name) s.taps ++ name ∷ [])) unknown);
          once = subst (λ (n : Noted). AreOnce n.taps) (sym is) (once-push s.taps t e once);
        }
    go (Some i) e =
        let is : noted s name line ≡ noted_at (Some i) s name line = ap (λ o. noted_at o s name line) e in
        let goes_on : Bool = i == s.last in
        let found = place-there s.taps name i e in
        let known : list_any (bytes_eq name) (map (λ (u : TapRuns). u.name) s.taps) ≡ true = sym (place-any s.taps name) ∙ ap is_some e in
        let runs = runs_by-at name s.taps i found.0 e found.1 in
        record {
          goes_on = goes_on;
          runs = λ q. ap (λ (n : Noted). runs_by q n.taps) is ∙ runs_by-changed q name goes_on line s.taps i e;
          last =
              ap last_run is
              ∙ ap (λ o. option_and_then (λ (u : TapRuns). last_of u.runs) o) (changed-at (with_run goes_on line) s.taps i found.0 found.1)
              ∙ sym (ap (λ rs. last_of (longer goes_on line rs)) runs);
          before = λ may.
              ap (λ o. option_and_then (λ (u : TapRuns). last_of u.runs) o) (ap (slice_get s.taps) (sym (eqb-true i s.last may)) ∙ found.1)
              ∙ ap last_of (sym runs);
          names = ap (λ (n : Noted). map (λ (u : TapRuns). u.name) n.taps) is ∙ names-changed goes_on line s.taps i
              ∙ sym (ap (λ b. cond b (map (λ (u : TapRuns). u.name) s.taps) (map (λ (u : TapRuns). u.name) s.taps ++ name ∷ [])) known);
          once = subst (λ (n : Noted). AreOnce n.taps) (sym is) (once-changed goes_on line s.taps i once);
        }
