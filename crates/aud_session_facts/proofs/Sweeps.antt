-- The first record of a session that stands in no turn, and what does not fit there.
use Rattle.std.proofs.Common.{◌≡◌, ◌<◌, ◌≤◌, ◌+◌, ◌-◌, ℕ, zero, suc, true, false, Bool, List, [], ◌∷◌, length, filter, cond, Option, Some, None, slice_get, refl, sym, ap, subst, ◌∙◌, ◌⊎◌, inl, inr, arith}
use Rattle.std.proofs.lemmas.Bool.{false≢true}
use Rattle.std.proofs.lemmas.Bool.Decides.{nat_tests}
use Rattle.std.proofs.lemmas.Option.{same_Some, none-some, slice_get_within}
use Rattle.aud_tap.specs.declared.records.NodeRec.{NodeRec}
use Rattle.aud_node.specs.Cluster.{Cluster, node_log}
use Rattle.aud_node.specs.Lists.{numbers_from}
use Rattle.aud_node.specs.OwnPlaces.{own_places}
use Rattle.aud_node.specs.OwnRecords.{record_names, own_numbers}
use Rattle.aud_node.specs.Stream.{Text}
use Rattle.aud_node.specs.TurnRecords.{begins_turn, ends_any_turn, turn_range}
use Rattle.aud_rooms.specs.Turns.{Turn, HasNoTurn}
use Rattle.aud_rooms.proofs.Turns.{begins-names}
use Rattle.aud_maker.specs.Begun.{turn_begun, AreBegun, AreAllBegun}
use Rattle.aud_maker.specs.InTurn.{number_begun, turn_or, turn_past, is_in_turn, are_in_turns}
use Rattle.aud_maker.proofs.BegunLemmas.{IsIndexed, begun, begun-is, named, unnamed}
use Rattle.aud_session_facts.specs.declared.astray.Astray.{Astray}
use Rattle.aud_session_facts.specs.declared.place.RecordPlace.{RecordPlace}
use Rattle.aud_session_facts.specs.Places.{record_at, IsOwn, Begins}
use Rattle.aud_session_facts.specs.Misfit.{IsBegunTwice, IsMissingTurn, IsBeforeTurns, IsAfterTurn, IsInsideTurn}
use Rattle.aud_session_facts.specs.Private.Astray.{begun_by, ends_at, astray_from, IsPast}
use Rattle.aud_session_facts.proofs.Ranges.{range-indexed, begun-range, range-stops, none-inside}

-- ---- single records

-- a number that a record of the session gives a turn is that of a turn that it begins
begun-begins : (pid : Text) (rec : NodeRec) (k : ℕ) → record_names (Some rec) pid ≡ true → number_begun rec ≡ Some k → begins_turn pid k rec ≡ true
begun-begins pid rec k own e = grind (arith, nat_tests)

-- a record that gives no turn a number begins none
none-begun : (pid : Text) (rec : NodeRec) (k : ℕ) → number_begun rec ≡ None → begins_turn pid k rec ≡ true → ⊥
none-begun pid rec k e begins = grind (arith, nat_tests)

-- there is a record with each number below their count
pub at-within : (log : List NodeRec) (n : ℕ) → n < length log → (rec : NodeRec) × (slice_get log n ≡ Some rec)
at-within [] n h = absurd (omega arith)
at-within (x ∷ xs) zero h = (x, refl)
at-within (x ∷ xs) (suc n) h = at-within xs n (omega arith)

-- of the turns from turn k on each is begun
begun-at : (c : Cluster) (nodes : List ℕ) (pid : Text) (k : ℕ) (turns : List Turn) → AreBegun c nodes pid k turns → (j n : ℕ) (t : Turn) → n ≡ k + j → slice_get turns j ≡ Some t → turn_begun c nodes pid n ≡ Some t
begun-at c nodes pid k [] are j n t e at = absurd (none-some t at)
begun-at c nodes pid k (x ∷ xs) are zero n t e at = let same : n ≡ k = omega arith in ap (turn_begun c nodes pid) same ∙ are.0 ∙ at
begun-at c nodes pid k (x ∷ xs) are (suc j) n t e at = begun-at c nodes pid (suc k) xs are.1 j n t (omega arith) at

-- each of the turns is begun
pub begun-there : (c : Cluster) (pid : Text) (turns : List Turn) → AreAllBegun c pid turns → (k : ℕ) (t : Turn) → slice_get turns k ≡ Some t → turn_begun c (own_places c pid) pid k ≡ Some t
begun-there c pid turns all k t at = begun-at c (own_places c pid) pid 0 turns all.begun k k t (omega arith) at

-- no record begins a turn that is not found begun
pub not-begun : (c : Cluster) (pid : Text) (k : ℕ) → turn_begun c (own_places c pid) pid k ≡ None → HasNoTurn c pid k
not-begun c pid k e = elim (begun c pid k) as (λ _. HasNoTurn c pid k) [ inl is ↦ is.1 | inr is ↦ absurd (none-some is.0 (sym e ∙ is.1)) ]

-- a record stands in a turn where the test passes
in-turn : (node x : ℕ) (o : Option Turn) → is_in_turn node x o ≡ true → (t : Turn) × (o ≡ Some t) × (t.node ≡ node) × (t.from ≤ x) × (x < t.to)
in-turn node x None e = absurd (false≢true e)
in-turn node x (Some t) e = (t, refl, grind (arith, nat_tests), grind (arith, nat_tests), grind (arith, nat_tests))

-- and in none of its turn where it fails
not-in-turn : (node x : ℕ) (t : Turn) → is_in_turn node x (Some t) ≡ false → t.node ≡ node → t.from ≤ x → t.to ≤ x
not-in-turn node x t e same le = grind (arith, nat_tests)

-- ---- the sweep

-- where the sweep finds nothing, all stand in the turns
pub astray-none : (log : List NodeRec) (turns : List Turn) (node : ℕ) (ns : List ℕ) (current : Option Turn) → astray_from log turns node ns current ≡ None → are_in_turns log turns node ns current ≡ true
astray-none log turns node [] current e = refl
astray-none log turns node (x ∷ ns) current e = grind (arith, astray-none log turns node ns (turn_past turns (slice_get log x) current), e)

module _ (c : Cluster) (pid : Text) (turns : List Turn) (all : AreAllBegun c pid turns) (node : ℕ) where
  -- the node's records
  abbrev log : List NodeRec
  log = node_log c node

  -- the record with this number is the session's
  abbrev own : ℕ → Bool
  own number = record_names (slice_get log number) pid

  -- no record from one number on and before another begins a turn
  abbrev Quiet : ℕ → ℕ → Type 0
  Quiet low high = (i j : ℕ) (rec : NodeRec) → low ≤ i → i < high → slice_get log i ≡ Some rec → begins_turn pid j rec ≡ true → ⊥

  -- this turn goes on before the record with this number, unless it has ended
  pub record GoesOn (x : ℕ) (t : Turn) : Type 0 where
    pub k : ℕ
    pub begun_k : turn_begun c (own_places c pid) pid k ≡ Some t
    pub same_node : t.node ≡ node
    pub from : t.from < x
    pub quiet : Quiet (suc t.from) x

  -- so it is, or no turn was begun
  abbrev pub Sound : ℕ → Option Turn → Type 0
  Sound x None = Quiet 0 x
  Sound x (Some t) = GoesOn x t

  -- one record more that begins none
  quiet-more : (low x : ℕ) → Quiet low x → ((j : ℕ) (rec : NodeRec) → slice_get log x ≡ Some rec → begins_turn pid j rec ≡ true → ⊥) → Quiet low (suc x)
  quiet-more low x quiet here i j rec h below at begins = go (eq i x)
    where
      eq : (a b : ℕ) → (a < b) ⊎ ((a < b) → ⊥)
      eq zero zero = inr (λ h. omega arith)
      eq zero (suc b) = inl (omega arith)
      eq (suc a) zero = inr (λ h. omega arith)
      eq (suc a) (suc b) = elim (eq a b) as (λ _. (suc a < suc b) ⊎ ((suc a < suc b) → ⊥)) [ inl h ↦ inl (omega arith) | inr h ↦ inr (λ less. h (omega arith)) ]

      go : (i < x) ⊎ ((i < x) → ⊥) → ⊥
      go (inl less) = quiet i j rec h less at begins
      go (inr not) = let same : i ≡ x = omega (arith, not, below) in here j rec (ap (slice_get log) (sym same) ∙ at) begins

  sound-more : (x : ℕ) (current : Option Turn) → Sound x current → ((j : ℕ) (rec : NodeRec) → slice_get log x ≡ Some rec → begins_turn pid j rec ≡ true → ⊥) → Sound (suc x) current
  sound-more x None quiet here = quiet-more 0 x quiet here
  sound-more x (Some t) on here =
      let from = on.from in
      record { k = on.k; begun_k = on.begun_k; same_node = on.same_node; from = omega (arith, from); quiet = quiet-more (suc t.from) x on.quiet here }

  -- after a record that stands in the turn that goes on
  sound-past : (x : ℕ) (rec : NodeRec) (current : Option Turn) → slice_get log x ≡ Some rec → Sound x current → is_in_turn node x (turn_past turns (Some rec) current) ≡ true → Sound (suc x) (turn_past turns (Some rec) current)
  sound-past x rec current there on inside = go (number_begun rec) refl
    where
      go : (n : Option ℕ) → number_begun rec ≡ n → Sound (suc x) (turn_past turns (Some rec) current)
      go None e =
          subst (λ n. Sound (suc x) (turn_or turns n current)) (sym e)
          (sound-more x current on (λ j r at begins. none-begun pid rec j e (ap (begins_turn pid j) (same_Some rec r (sym there ∙ at)) ∙ begins)))
      go (Some k) e =
          let (t, at, same, from, below) = in-turn node x (slice_get turns k) (ap (λ n. is_in_turn node x (turn_or turns n current)) (sym e) ∙ inside) in
          let is = begun-there c pid turns all k t at in
          let indexed = subst (λ n. IsIndexed (node_log c n) pid k t.from t.to) same (begun-is c pid k t is) in
          let goes : GoesOn (suc x) t = record { k = k; begun_k = is; same_node = same; from = omega (arith, from); quiet = λ i j r h under at' begins. none-inside log pid k t.from t.to indexed i j r (omega (arith, h)) (omega (arith, under, below)) at' begins } in
          subst (λ n. Sound (suc x) (turn_or turns n current)) (sym e) (subst (λ o. Sound (suc x) o) (sym at) goes)

  -- what is known of the first record that stands in no turn
  pub record IsAstray (a : Astray) : Type 0 where
    pub rec : NodeRec
    pub there : slice_get log a.number ≡ Some rec
    pub names : record_names (Some rec) pid ≡ true
    pub before : Option Turn
    pub sound : Sound a.number before
    pub going : a.going_on ≡ turn_past turns (Some rec) before
    pub out : is_in_turn node a.number a.going_on ≡ false

  -- the sweep from a record on
  astray-from : (count x : ℕ) (current : Option Turn) (a : Astray) → Sound x current → astray_from log turns node (filter own (numbers_from x count)) current ≡ Some a → IsAstray a
  astray-from zero x current a on is = absurd (none-some a is)
  astray-from (suc count) x current a on is = go (own x) refl (slice_get log x) refl (λ next goes found. astray-from count (suc x) next a goes found) is
    where
      later : List ℕ
      later = filter own (numbers_from (suc x) count)

      -- the sweep at the record
      at_record : (rec : NodeRec) → slice_get log x ≡ Some rec → record_names (Some rec) pid ≡ true → ((next : Option Turn) → Sound (suc x) next → astray_from log turns node later next ≡ Some a → IsAstray a) → (w : Bool) → is_in_turn node x (turn_past turns (Some rec) current) ≡ w
          → cond w (astray_from log turns node later (turn_past turns (Some rec) current)) (Some (record { number = x; going_on = turn_past turns (Some rec) current })) ≡ Some a → IsAstray a
      at_record rec at its ih true e found = ih (turn_past turns (Some rec) current) (sound-past x rec current at on e) found
      at_record rec at its ih false e found =
          let here : IsAstray (record { number = x; going_on = turn_past turns (Some rec) current }) = record { rec = rec; there = at; names = its; before = current; sound = on; going = refl; out = e } in
          subst IsAstray (same_Some (record { number = x; going_on = turn_past turns (Some rec) current }) a found) here

      go : (v : Bool) → own x ≡ v → (o : Option NodeRec) → slice_get log x ≡ o → ((next : Option Turn) → Sound (suc x) next → astray_from log turns node later next ≡ Some a → IsAstray a) → astray_from log turns node (cond v (x ∷ later) later) current ≡ Some a → IsAstray a
      go false e o at ih found =
          ih current (sound-more x current on (λ j r there begins. false≢true (sym e ∙ ap (λ q. record_names q pid) there ∙ named pid r (begins-names pid j r begins)))) found
      go true e None at ih found = absurd (false≢true (ap (λ q. record_names q pid) (sym at) ∙ e))
      go true e (Some rec) at ih found =
          at_record rec at (ap (λ q. record_names q pid) (sym at) ∙ e) ih (is_in_turn node x (turn_past turns (Some rec) current)) refl
          (subst (λ q. cond (is_in_turn node x (turn_past turns q current)) (astray_from log turns node later (turn_past turns q current)) (Some (record { number = x; going_on = turn_past turns q current })) ≡ Some a) at found)

  -- the first record that the sweep finds
  pub astray-first : (a : Astray) → astray_from log turns node (own_numbers log pid) None ≡ Some a → IsAstray a
  astray-first a is = astray-from (length log) 0 None a (λ i j rec h below at begins. absurd (omega (arith, below))) is

  module _ (a : Astray) (is : IsAstray a) where
    -- its place
    abbrev pub here : RecordPlace
    here = record { node = node; number = a.number }

    -- the number that it gives a turn
    number-is : number_begun is.rec ≡ begun_by (slice_get log a.number)
    number-is = ap begun_by (sym is.there)

    own-here : IsOwn c pid here
    own-here = record { rec = is.rec; there = is.there; names = unnamed is.rec pid is.names }

    pub astray-begins : (k : ℕ) → begun_by (slice_get log a.number) ≡ Some k → Begins c pid k here
    astray-begins k e = record { rec = is.rec; there = is.there; begins = begun-begins pid is.rec k is.names (number-is ∙ e) }

    pub astray-out : (k : ℕ) → begun_by (slice_get log a.number) ≡ Some k → is_in_turn node a.number (slice_get turns k) ≡ false
    astray-out k e = ap (λ n. is_in_turn node a.number (turn_or turns n is.before)) (sym (number-is ∙ e)) ∙ ap (is_in_turn node a.number) (sym is.going) ∙ is.out

    -- where it begins no turn, the turn that goes on is the one before
    going-before : begun_by (slice_get log a.number) ≡ None → is.before ≡ a.going_on
    going-before e = ap (λ n. turn_or turns n is.before) (sym (number-is ∙ e)) ∙ sym is.going

    none-here : begun_by (slice_get log a.number) ≡ None → (j : ℕ) (rec : NodeRec) → slice_get log a.number ≡ Some rec → begins_turn pid j rec ≡ true → ⊥
    none-here e j rec at begins = none-begun pid rec j (ap number_begun (same_Some rec is.rec (sym at ∙ is.there)) ∙ number-is ∙ e) begins

    pub astray-before : begun_by (slice_get log a.number) ≡ None → a.going_on ≡ None → IsBeforeTurns c pid here
    astray-before e none =
        let quiet : Quiet 0 (suc a.number) = sound-more a.number None (subst (λ o. Sound a.number o) (going-before e ∙ none) is.sound) (none-here e) in
        record { own = own-here; none_begun = λ i k rec h at begins. quiet i k rec (omega arith) (omega (arith, h)) at begins }

    pub astray-past : begun_by (slice_get log a.number) ≡ None → (t : Turn) → a.going_on ≡ Some t → IsPast c pid t here
    astray-past e t goes =
        let on : GoesOn a.number t = subst (λ o. Sound a.number o) (going-before e ∙ goes) is.sound in
        let quiet : Quiet (suc t.from) (suc a.number) = quiet-more (suc t.from) a.number on.quiet (none-here e) in
        let from = on.from in
        record {
          turn = on.k;
          ranged = begun-range c pid on.k (own_places c pid) t on.begun_k;
          same_node = on.same_node;
          past = not-in-turn node a.number t (ap (is_in_turn node a.number) (sym goes) ∙ is.out) on.same_node (omega (arith, from));
          own = own-here;
          none_begun = λ i k rec h under at begins. quiet i k rec (omega (arith, h)) (omega (arith, under)) at begins;
        }

-- ---- what does not fit there

module _ (c : Cluster) (pid : Text) (turns : List Turn) (all : AreAllBegun c pid turns) where
  -- the first record of a turn that is found begun
  pub begins-first : (k : ℕ) (t : Turn) → turn_begun c (own_places c pid) pid k ≡ Some t → Begins c pid k (record { node = t.node; number = t.from })
  begins-first k t is = let r = begun-is c pid k t is in record { rec = r.first; there = r.there; begins = r.begins }

  pub twice : (k : ℕ) (place : RecordPlace) (t : Turn) → Begins c pid k place → is_in_turn place.node place.number (slice_get turns k) ≡ false → slice_get turns k ≡ Some t
      → IsBegunTwice c pid k (record { node = t.node; number = t.from }) place
  twice k place t begins out at =
      let is = begun-there c pid turns all k t at in
      let some = begun-is c pid k t is in
      let to_is = some.to_is in
      record {
        first_begins = begins-first k t is;
        again_begins = begins;
        two = λ same.
            let node : t.node ≡ place.node = ap (λ (p : RecordPlace). p.node) same in
            let from : t.from ≡ place.number = ap (λ (p : RecordPlace). p.number) same in
            let past : t.to ≤ place.number = not-in-turn place.node place.number t (ap (is_in_turn place.node place.number) (sym at) ∙ out) node (omega (arith, from)) in
            omega (arith, past, from, to_is);
      }

  pub missing : (k : ℕ) (place : RecordPlace) → Begins c pid k place → slice_get turns k ≡ None → IsMissingTurn c pid (length turns) place
  missing k place begins at =
      let none = not-begun c pid (length turns) all.no_more in
      record { missing = none; later = k; is_later = later_than; begins = begins }
    where
      past : (ts : List Turn) (n : ℕ) → slice_get ts n ≡ None → length ts ≤ n
      past [] n e = omega arith
      past (x ∷ xs) zero e = absurd (none-some x (sym e))
      past (x ∷ xs) (suc n) e = let h = past xs n e in omega (arith, h)

      other : k ≡ length turns → ⊥
      other same = not-begun c pid (length turns) all.no_more place.node place.number begins.rec begins.there (ap (λ n. begins_turn pid n begins.rec) (sym same) ∙ begins.begins)

      later_than : length turns < k
      later_than = let le = past turns k at in omega (arith, le, other)

-- the last record of a turn
pub last-of : (c : Cluster) (pid : Text) (k : ℕ) (t : Turn) → turn_range (node_log c t.node) pid k ≡ Some (t.from, t.to) → (last : NodeRec) × (slice_get (node_log c t.node) (t.to - 1) ≡ Some last)
last-of c pid k t ranged =
    let r = range-indexed (node_log c t.node) pid k t.from t.to ranged in
    let to_is = r.to_is in
    let within = r.within in
    at-within (node_log c t.node) (t.to - 1) (omega (arith, to_is, within))

-- a turn that is ended by no `break` and no `gone`, and a record after it
pub inside : (c : Cluster) (pid : Text) (k : ℕ) (t : Turn) (rec : NodeRec) → turn_range (node_log c t.node) pid k ≡ Some (t.from, t.to) → ends_at pid (slice_get (node_log c t.node) (t.to - 1)) ≡ false
    → slice_get (node_log c t.node) t.to ≡ Some rec → IsInsideTurn c pid (record { node = t.node; number = t.from }) (record { node = t.node; number = t.to })
inside c pid k t rec ranged lasting at =
    let (last, there) = last-of c pid k t ranged in
    let plain : ends_any_turn pid last ≡ false = ap (ends_at pid) (sym there) ∙ lasting in
    record { turn = k; same_node = refl; ranged = ranged; last = last; last_there = there; ends_not = plain; rec = rec; there = at; begins = range-stops (node_log c t.node) pid k t.from t.to last rec ranged there plain at }

-- a record past a turn that is so ended
pub past-inside : (c : Cluster) (pid : Text) (t : Turn) (place : RecordPlace) → IsPast c pid t place → ends_at pid (slice_get (node_log c t.node) (t.to - 1)) ≡ false
    → IsInsideTurn c pid (record { node = t.node; number = t.from }) (record { node = t.node; number = t.to })
past-inside c pid t place is lasting =
    let past = is.past in
    let within = slice_get_within (node_log c place.node) place.number is.own.rec is.own.there in
    let same : length (node_log c t.node) ≡ length (node_log c place.node) = ap (λ n. length (node_log c n)) is.same_node in
    let (rec, at) = at-within (node_log c t.node) t.to (omega (arith, within, same, past)) in
    inside c pid is.turn t rec is.ranged lasting at

-- a record past a turn that a `break` or the `gone` ends
pub past-after : (c : Cluster) (pid : Text) (t : Turn) (place : RecordPlace) (end : RecordPlace) → IsPast c pid t place → end.node ≡ t.node → end.number ≡ t.to - 1 → ends_at pid (record_at c end) ≡ true → IsAfterTurn c pid end place
past-after c pid t place end is node number ends =
    let r = range-indexed (node_log c t.node) pid is.turn t.from t.to is.ranged in
    let to_is = r.to_is in
    let past = is.past in
    let (last, there) = last-of c pid is.turn t is.ranged in
    let to : t.to ≡ suc end.number = omega (arith, number, to_is) in
    let there' : record_at c end ≡ Some last = ap (λ n. slice_get (node_log c n) end.number) node ∙ ap (slice_get (node_log c t.node)) number ∙ there in
    record {
      turn = is.turn;
      from = t.from;
      ranged = ap (λ n. turn_range (node_log c n) pid is.turn) node ∙ is.ranged ∙ ap (λ n. Some (t.from, n)) to;
      last = last;
      last_there = there';
      ends = ap (ends_at pid) (sym there') ∙ ends;
      same_node = node ∙ is.same_node;
      is_later = omega (arith, to, past);
      own = is.own;
      none_begun = λ i k rec h under at begins. is.none_begun i k rec (omega (arith, h, to_is, to)) under at begins;
    }
