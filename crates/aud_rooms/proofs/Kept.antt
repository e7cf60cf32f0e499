-- What a builder of spans keeps of each room, seen as the rooms of each position; its spans are those of these rooms.
use Rattle.std.proofs.lemmas.Grind.{common_steps}
use Rattle.std.proofs.Common.{◌≡◌, ◌<◌, ◌≤◌, ◌+◌, ◌-◌, ℕ, true, false, cond, [], map, replicate, Option, Some, None, refl, sym, ap, ◌∙◌, arith, suc, List, ◌∷◌, ◌++◌, subst, inl, inr, true≢false, nat_cmp, is_eq, Bor, le-ltb, Less}
use Rattle.std.proofs.lemmas.List.{append-nil, length-map}
use Rattle.std.specs.Cmp.{eq_by_cmp_equiv, IsTotalOrder}
use Rattle.std.specs.Cmp.Lexicographic.{slice_cmp, nat_list_cmp_total}
use Rattle.std.specs.FinSet as set
use Rattle.aud_node.specs.Stream.{Text, positions_after}
use Rattle.aud_rooms.specs.Assigned.{covered, starting, with_joined, with_left, covered_upto, assigned_rooms, AreSpansOf}
use Rattle.aud_rooms.specs.Private.Times.{Times, AreApart, ContinuesTimes, is_held_at, is_held_now, is_in_interval, intervals_upto, span_of, spans_of}
use Rattle.aud_rooms.specs.Private.RoomMap.{RoomMap, at_room, do_pass, rooms_with, by_room, AreOrdered}
use Rattle.aud_rooms.specs.Private.Building.{assigned_of, AreKept, spans_upto}
use Rattle.aud_rooms.proofs.Times.{held_beyond, apart_longer, place_maximal, interval_of, maximal_same, closed}
use Rattle.aud_rooms.proofs.RoomMaps.{same_text, contains-rooms_with, same_rooms}
use Rattle.aud_rooms.proofs.Ascending.{length-numbers, map_positions, map_more, map_same, number_at}
use Rattle.std.specs.List.{Contains, AllByRecursion, list_any}
use Rattle.std.specs.List.Sorted.{IsStrictlySortedBy}
use Rattle.std.proofs.lemmas.Option.{slice_get-map, none-some}
use Rattle.aud_rooms.specs.declared.interval.Interval.{Interval}
use Rattle.aud_rooms.specs.Spans.{RoomSpan, IsMaximalInterval, IsMaximal, ComesBefore, ComesBeforeAll, AreInOrder, AreSpans}
use Rattle.aud_rooms.proofs.Members.{contains-none, contains-parts, contains-first, contains-later}
use Rattle.aud_rooms.proofs.Intervals.{interval_alike, spans_alike}
use Rattle.aud_base.proofs.Truth.{or_none}
use Rattle.std.proofs.lemmas.List.Elements.{Contains-append_cases, Contains-append_left, Contains-append_right, All-contains, All-from_recursion}
use Rattle.std.proofs.lemmas.Map.Keys.{IsDistinct-from_sorted}
use Rattle.std.proofs.lemmas.Map.Views.{lookup-from_Contains}

-- ---- more positions are covered

module _ (low cov position : ℕ) (es : RoomMap Times) (kept : AreKept low cov es) where
  -- past the covered positions the rooms are those held now
  now_beyond : (p : ℕ) → cov < p → rooms_with (is_held_at p) es ≡ rooms_with is_held_now es
  now_beyond p h = same_rooms _ _ (λ q. contains-rooms_with (is_held_at p) es q ∙ alike (at_room es q) (kept.apart q) ∙ sym (contains-rooms_with is_held_now es q))
    where
      alike : (o : Option Times) → ((t : Times) → o ≡ Some t → AreApart low t.ended t.since cov) → do_pass (is_held_at p) o ≡ do_pass is_held_now o
      alike None apart = refl
      alike (Some t) apart = held_beyond low cov p t (apart t refl) h

  -- the times stay in order as more positions are covered
  pub kept_covered : cov ≤ position → AreKept low position es
  kept_covered h =
      record {
        above = (let a = kept.above in omega arith);
        apart = λ room t at. apart_longer low cov position t.ended t.since (kept.apart room t at) h;
      }

  -- so far are positions covered
  pub covered_is : covered (assigned_of low cov es) ≡ cov
  covered_is = grind (arith, common_steps, length-map, length-numbers)

  -- the positions that are covered anew all have the rooms held now
  later : map (λ p. rooms_with (is_held_at p) es) (positions_after (low + (cov - low)) (position - cov)) ≡ replicate (position - cov) (rooms_with is_held_now es)
  later = grind (arith, map_positions, now_beyond, map_same (rooms_with is_held_now es) cov (position - cov))

  -- up to a later position the rooms held now are taken
  pub covers_more : cov ≤ position → assigned_of low position es ≡ covered_upto position (assigned_of low cov es)
  covers_more h =
      let above = kept.above in
      let parts : position - low ≡ (cov - low) + (position - cov) = omega arith in
      grind (arith, above, parts, map_more (λ p. rooms_with (is_held_at p) es) low (cov - low) (position - cov), later, covered_is)

  -- up to an earlier one nothing changes
  pub covers_no_more : position ≤ cov → assigned_of low cov es ≡ covered_upto position (assigned_of low cov es)
  covers_no_more h = grind (arith, append-nil, covered_is)

-- ---- a room's times change

-- the new times of a room are in order, and the room was held at the same covered positions by those that it had, if
-- any
pub record Continues (low cov : ℕ) (old : Option Times) (new : Times) : Type 0 where
  pub apart : AreApart low new.ended new.since cov
  pub same : (p : ℕ) → p ≤ cov → do_pass (is_held_at p) old ≡ is_held_at p new

-- a room that had no times
pub continues_none : (low cov : ℕ) (old : Option Times) (new : Times) → low ≤ cov → None ≡ old → new ≡ record { ended = []; since = Some cov } → Continues low cov old new
continues_none low cov old new h absent is =
    subst (Continues low cov old) (sym is)
    (subst (λ o. Continues low cov o (record { ended = []; since = Some cov })) absent (record { apart = (h, omega arith); same = λ p to. sym (le-ltb cov p to) }))

-- a room that had times
pub continues_some : (low cov : ℕ) (o : Option Times) (old new : Times) → Some old ≡ o → ContinuesTimes low cov old new → Continues low cov o new
continues_some low cov o old new found continues =
    subst (λ o. Continues low cov o new) found (record { apart = continues.apart; same = λ p h. sym (continues.same p h) })

module _ (low cov : ℕ) (olds lent news : RoomMap Times) (same : lent ≡ olds) (room : Text) (t : Times)
    (updates : (q : Bor Text) → at_room news q.now ≡ cond (is_eq (slice_cmp nat_cmp room q.now)) (Some t) (at_room lent q.now))
    (kept : AreKept low cov olds) (continues : Continues low cov (at_room olds room) t) where
  -- what the changed map has for a text
  at : (q : Text) → at_room news q ≡ cond (is_eq (slice_cmp nat_cmp room q)) (Some t) (at_room olds q)
  at q = updates (record { ref_ptr = (0, 0); now = q }) ∙ ap (λ es. cond (is_eq (slice_cmp nat_cmp room q)) (Some t) (at_room es q)) same

  -- the times of all rooms stay in order
  pub kept_put : AreKept low cov news
  kept_put = record { above = kept.above; apart = λ room q is. grind (arith, at room, is, kept.apart room q, continues.apart) }

  -- the covered positions keep their rooms
  same_at_each : (p : ℕ) → p ≤ cov → rooms_with (is_held_at p) news ≡ rooms_with (is_held_at p) olds
  same_at_each p h =
      same_rooms _ _ (λ q. grind (arith, contains-rooms_with (is_held_at p) news q, contains-rooms_with (is_held_at p) olds q, at q, same_text room q, continues.same p h))

  -- so they have the same rooms
  same_sets : map (λ p. rooms_with (is_held_at p) news) (positions_after low (cov - low)) ≡ map (λ p. rooms_with (is_held_at p) olds) (positions_after low (cov - low))
  same_sets = (let above = kept.above in map_positions _ _ low (cov - low) (λ p _ h. same_at_each p (omega arith)))

  -- the room is held from now on
  pub assigned_joined : is_held_now t ≡ true → assigned_of low cov news ≡ with_joined room (assigned_of low cov olds)
  assigned_joined now = grind (arith, same_sets, gained)
    where
      gained : rooms_with is_held_now news ≡ set.insert (rooms_with is_held_now olds) room
      gained =
          same_rooms _ _ (λ q. grind (arith, contains-rooms_with is_held_now news q, contains-rooms_with is_held_now olds q, at q, now, set.contains-insert nat_list_cmp_total (rooms_with is_held_now olds) room q, (eq_by_cmp_equiv nat_list_cmp_total).symm room q))

  -- the room is held no longer
  pub assigned_left : is_held_now t ≡ false → assigned_of low cov news ≡ with_left room (assigned_of low cov olds)
  assigned_left now = grind (arith, same_sets, lost)
    where
      lost : rooms_with is_held_now news ≡ set.remove (rooms_with is_held_now olds) room
      lost =
          same_rooms _ _ (λ q. grind (arith, contains-rooms_with is_held_now news q, contains-rooms_with is_held_now olds q, at q, now, set.contains-remove nat_list_cmp_total (rooms_with is_held_now olds) room q, (eq_by_cmp_equiv nat_list_cmp_total).symm room q))

-- nothing is covered and nothing is kept
pub kept_none : (birth : ℕ) → AreKept birth birth []
kept_none birth = record { above = omega arith; apart = λ room t is. absurd (none-some t is) }

-- that is how a session starts, before it holds its own room
pub starts : (birth : ℕ) (sid : Text) → with_joined sid (assigned_of birth birth []) ≡ starting sid birth
unfolding rooms_with
starts birth sid =
    ap (λ n. record { low = birth; sets = map (λ p. rooms_with (is_held_at p) []) (positions_after birth n); held = set.insert set.empty sid }) (let none : birth - birth ≡ 0 = omega arith in none)

-- to leave a room that had no times changes nothing
pub assigned_absent : (low cov : ℕ) (olds : RoomMap Times) (room : Text) → None ≡ at_room olds room → assigned_of low cov olds ≡ with_left room (assigned_of low cov olds)
assigned_absent low cov olds room absent =
    ap (λ rooms. record { low = low; sets = map (λ p. rooms_with (is_held_at p) olds) (positions_after low (cov - low)); held = rooms }) (sym without)
  where
    without : set.remove (rooms_with is_held_now olds) room ≡ rooms_with is_held_now olds
    without =
        same_rooms _ _ (λ q. grind (arith, set.contains-remove nat_list_cmp_total (rooms_with is_held_now olds) room q, contains-rooms_with is_held_now olds q, same_text q room, absent))

-- ---- the spans of what the builder kept are the spans of the rooms that it gave to positions

-- ---- lists

-- what a list made of another contains is made of one of that other's elements
contains-map : {X Y : Type 0} (f : X → Y) (xs : List X) (y : Y) → Contains (map f xs) y → (x : X) × Contains xs x × (f x ≡ y)
contains-map f [] y among = absurd (contains-none y among)
contains-map f (x ∷ xs) y among = grind (arith, contains-map f xs y, contains-parts (f x) (map f xs) y among, contains-first x xs, contains-later x xs)

-- what is made of an element of a list is in the list made of it
map-contains : {X Y : Type 0} (f : X → Y) (xs : List X) (x : X) → Contains xs x → Contains (map f xs) (f x)
map-contains f [] x among = absurd (contains-none x among)
map-contains f (y ∷ ys) x among = grind (arith, map-contains f ys x, contains-parts y ys x among, contains-first (f y) (map f ys), contains-later (f y) (map f ys) (f x))

-- ---- the spans of one room

module _ (low cov : ℕ) (room : Text) (t : Times) (apart : AreApart low t.ended t.since cov) where
  -- its intervals have the positions at which it is held
  same_at : (p : ℕ) → p ≤ cov → list_any (is_in_interval p) (intervals_upto cov t) ≡ is_held_at p t
  same_at p h = sym (or_none (list_any (is_in_interval p) (intervals_upto cov t))) ∙ (closed low cov t apart).same p h

  -- each of its intervals is maximal
  interval_maximal : (i : Interval) → Contains (intervals_upto cov t) i → IsMaximalInterval (λ p. is_held_at p t) low cov (suc i.after) i.last
  interval_maximal i among =
      interval_alike (λ p. list_any (is_in_interval p) (intervals_upto cov t)) (λ p. is_held_at p t) low cov (suc i.after) i.last (λ p a b. same_at p b)
      (place_maximal low cov (intervals_upto cov t) i (closed low cov t apart).apart among)

  -- so is each of its spans
  pub span_maximal : (s : RoomSpan) → Contains (spans_of room cov t) s → (s.room ≡ room) × IsMaximalInterval (λ p. is_held_at p t) low cov s.first s.last
  span_maximal s among =
      let (i, here, same) = contains-map (span_of room) (intervals_upto cov t) s among in (
        sym (ap (λ (x : RoomSpan). x.room) same),
        subst (λ (x : RoomSpan). IsMaximalInterval (λ p. is_held_at p t) low cov x.first x.last) same (interval_maximal i here),
      )

  -- and each maximal interval is one of its spans
  pub maximal_span : (first last : ℕ) → IsMaximalInterval (λ p. is_held_at p t) low cov first last → Contains (spans_of room cov t) (record { room = room; first = first; last = last })
  maximal_span first last m =
      let past = m.past_low in
      let some = m.some in
      let to = m.to_high in
      let held : list_any (is_in_interval first) (intervals_upto cov t) ≡ true = same_at first (omega arith) ∙ m.held first (omega arith) (omega arith) in
      let (i, among, after, upto) = interval_of first (intervals_upto cov t) held in
      let same = maximal_same (λ p. is_held_at p t) low cov (suc i.after) i.last first last first (interval_maximal i among) m (omega arith) upto (omega arith) (omega arith) in
      grind (arith, same, map-contains (span_of room) (intervals_upto cov t) i among)

  -- intervals apart from one another make spans in order
  in_order : (from : ℕ) (is : List Interval) → AreApart from is None cov → AreInOrder (map (span_of room) is)
  in_order from [] apart = tt
  in_order from (i ∷ is) (a, b, c, rest) = (each (suc i.last) is rest (omega arith), in_order (suc i.last) is rest)
    where
      each : (next : ℕ) (js : List Interval) → AreApart next js None cov → i.after < next → ComesBeforeAll (span_of room i) (map (span_of room) js)
      each next [] apart h = tt
      each next (j ∷ js) (x, y, z, later) h = (inr (refl, omega arith), each (suc j.last) js later (omega arith))

  -- its spans are in order
  pub room_in_order : AreInOrder (spans_of room cov t)
  room_in_order = in_order low (intervals_upto cov t) (closed low cov t apart).apart

-- ---- the spans of all rooms

-- the entry of a room that has times
entry_of : (es : RoomMap Times) (room : Text) (t : Times) → at_room es room ≡ Some t → (k : Bor Text) × Contains es (k, t) × (k.now ≡ room)
entry_of [] room t found = absurd cc
entry_of (e ∷ es) room t found = grind (arith, entry_of es room t, same_text room e.0.now, contains-first e es, contains-later e es)

-- a span of all rooms is one of some room's times
among_entries : (cov : ℕ) (es : RoomMap Times) (s : RoomSpan) → Contains (spans_upto cov es) s → (e : (Bor Text) × Times) × Contains es e × Contains (spans_of e.0.now cov e.1) s
among_entries cov [] s among = absurd (contains-none s among)
among_entries cov (e ∷ es) s among =
    grind (arith, among_entries cov es s, Contains-append_cases (spans_of e.0.now cov e.1) (spans_upto cov es) s among, contains-first e es, contains-later e es)

-- the spans of a room's times are among those of all rooms
entries_among : (cov : ℕ) (es : RoomMap Times) (e : (Bor Text) × Times) (s : RoomSpan) → Contains es e → Contains (spans_of e.0.now cov e.1) s → Contains (spans_upto cov es) s
entries_among cov [] e s among at = absurd (contains-none e among)
entries_among cov (x ∷ es) e s among at =
    grind (arith, entries_among cov es e s, contains-parts x es e among, Contains-append_left (spans_of x.0.now cov x.1) (spans_upto cov es) s, Contains-append_right (spans_of x.0.now cov x.1) (spans_upto cov es) s)

-- two lists of spans in order, the first all before the second, are in order one after the other
order-append : (xs ys : List RoomSpan) → AreInOrder xs → AreInOrder ys → ((x y : RoomSpan) → Contains xs x → Contains ys y → ComesBefore x y) → AreInOrder (xs ++ ys)
order-append [] ys a b before = b
order-append (x ∷ xs) ys a b before =
    (all xs a.0 (λ y among. before x y (contains-first x xs) among), order-append xs ys a.1 b (λ z y one other. before z y (contains-later x xs z one) other))
  where
    later : (zs : List RoomSpan) → ((y : RoomSpan) → Contains zs y → ComesBefore x y) → ComesBeforeAll x zs
    later [] each = tt
    later (z ∷ zs) each = (each z (contains-first z zs), later zs (λ y among. each y (contains-later z zs y among)))

    all : (zs : List RoomSpan) → ComesBeforeAll x zs → ((y : RoomSpan) → Contains ys y → ComesBefore x y) → ComesBeforeAll x (zs ++ ys)
    all [] none each = later ys each
    all (z ∷ zs) (first, rest) each = (first, all zs rest each)

-- a room that comes before all others in the map comes before each of them
below_each : (k : Bor Text) (es : RoomMap Times) (e : (Bor Text) × Times) → AllByRecursion (λ y. by_room k y ≡ Less) (map (λ x. x.0) es) → Contains es e → by_room k e.0 ≡ Less
below_each k es e all among = All-contains (λ y. by_room k y ≡ Less) (map (λ x. x.0) es) e.0 (All-from_recursion _ _ all) (map-contains (λ x. x.0) es e among)

module _ (low cov : ℕ) where
  -- a span of an entry is of the entry's room
  room_of : (e : (Bor Text) × Times) → AreApart low e.1.ended e.1.since cov → (s : RoomSpan) → Contains (spans_of e.0.now cov e.1) s → s.room ≡ e.0.now
  room_of e apart s among = (span_maximal low cov e.0.now e.1 apart s among).0

  -- the spans of all rooms are in order
  all_in_order : (es : RoomMap Times) → AreOrdered es → ((e : (Bor Text) × Times) → Contains es e → AreApart low e.1.ended e.1.since cov)
      → AreInOrder (spans_upto cov es)
  unfolding IsStrictlySortedBy
  all_in_order [] sorted apart = tt
  all_in_order (e ∷ es) (below, sorted) apart =
      let one = apart e (contains-first e es) in
      order-append (spans_of e.0.now cov e.1) (spans_upto cov es) (room_in_order low cov e.0.now e.1 one)
      (all_in_order es sorted (λ x among. apart x (contains-later e es x among)))
      (λ x y here later.
      let (other, among, at) = among_entries cov es y later in
      let first : x.room ≡ e.0.now = room_of e one x here in
      let second : y.room ≡ other.0.now = room_of other (apart other (contains-later e es other among)) y at in
      inl (ap (λ a. slice_cmp nat_cmp a y.room) first ∙ ap (slice_cmp nat_cmp e.0.now) second ∙ below_each e.0 es other below among))

-- rooms, by their bytes, stand in one order
pub by_room_total : IsTotalOrder by_room
by_room_total =
    record {
      antisymm = λ a b. nat_list_cmp_total.antisymm a.now b.now;
      trans = λ a b c. nat_list_cmp_total.trans a.now b.now c.now;
      congr = λ a b c. nat_list_cmp_total.congr a.now b.now c.now;
    }

-- each entry is the one that is found under its room
found_in : (es : RoomMap Times) → AreOrdered es → (e : (Bor Text) × Times) → Contains es e → at_room es e.0.now ≡ Some e.1
found_in es ordered e among = lookup-from_Contains (eq_by_cmp_equiv by_room_total) e.0 e.1 es (IsDistinct-from_sorted by_room (map (λ x. x.0) es) ordered) among

module _ (low cov : ℕ) (es : RoomMap Times) (kept : AreKept low cov es) (ordered : AreOrdered es) where
  -- the times of each entry are in order
  apart_of : (e : (Bor Text) × Times) → Contains es e → AreApart low e.1.ended e.1.since cov
  apart_of e among = kept.apart e.0.now e.1 (found_in es ordered e among)

  -- a room is held at a position where its times say so
  test_of : (room : Text) (t : Times) → at_room es room ≡ Some t → (p : ℕ) → is_held_at p t ≡ set.contains (rooms_with (is_held_at p) es) room
  test_of room t is p = sym (contains-rooms_with (is_held_at p) es room ∙ ap (do_pass (is_held_at p)) is)

  -- each span is maximal
  each : (s : RoomSpan) → Contains (spans_upto cov es) s → IsMaximal (λ p. rooms_with (is_held_at p) es) low cov s
  each s among =
      let (e, here, at) = among_entries cov es s among in
      let (same, maximal) = span_maximal low cov e.0.now e.1 (apart_of e here) s at in
      interval_alike (λ p. is_held_at p e.1) (λ p. set.contains (rooms_with (is_held_at p) es) s.room) low cov s.first s.last
      (λ p _ _. test_of s.room e.1 (ap (at_room es) same ∙ found_in es ordered e here) p) maximal

  -- each maximal span is one of them
  all : (s : RoomSpan) → IsMaximal (λ p. rooms_with (is_held_at p) es) low cov s → Contains (spans_upto cov es) s
  all s maximal = go (at_room es s.room) refl
    where
      some_at : set.contains (rooms_with (is_held_at s.first) es) s.room ≡ true
      some_at = (let some = maximal.some in maximal.held s.first (omega arith) some)

      go : (o : Option Times) → at_room es s.room ≡ o → Contains (spans_upto cov es) s
      go None is = absurd (true≢false (sym some_at ∙ contains-rooms_with (is_held_at s.first) es s.room ∙ ap (do_pass (is_held_at s.first)) is))
      go (Some t) is =
          let (k, among, same) = entry_of es s.room t is in
          let here = maximal_span low cov s.room t (kept.apart s.room t is) s.first s.last
          (interval_alike (λ p. set.contains (rooms_with (is_held_at p) es) s.room) (λ p. is_held_at p t) low cov s.first s.last (λ p _ _. sym (test_of s.room t is p)) maximal) in
          entries_among cov es (k, t) s among (subst (λ r. Contains (spans_of r cov t) s) (sym same) here)

  -- they are the spans of the rooms of the entries
  by_entries : AreSpans (λ p. rooms_with (is_held_at p) es) low cov (spans_upto cov es)
  by_entries = record { each = each; all = all; in_order = all_in_order low cov es ordered apart_of }

  -- these are the rooms that the positions have
  given_at : (p : ℕ) → low < p → p ≤ cov → rooms_with (is_held_at p) es ≡ assigned_rooms (assigned_of low cov es) p
  given_at p past upto = grind (arith, slice_get-map, number_at (suc low) (cov - low) (p - suc low))

  -- so they are the spans of what was given
  pub finished : AreSpansOf (assigned_of low cov es) (spans_upto cov es)
  finished =
      subst (λ n. AreSpans (assigned_rooms (assigned_of low cov es)) low n (spans_upto cov es)) (sym (covered_is low cov cov es kept))
      (spans_alike (λ p. rooms_with (is_held_at p) es) (assigned_rooms (assigned_of low cov es)) low cov (spans_upto cov es) given_at by_entries)
