-- The positions that may be due by spans, and those that are.
use Rattle.std.proofs.lemmas.Grind.{common_steps}
use Rattle.std.proofs.lemmas.Bool.Decides.{nat_tests}
use Rattle.std.proofs.Common.{◌≡◌, ◌-◌, ℕ, Bool, true, false, not, ◌&&◌, ◌||◌, List, [], ◌∷◌, ◌++◌, filter, length, min, max, Option, Some, None, refl, sym, ◌∙◌, arith, ◌==◌, nat_cmp, is_eq, bytes_eq}
use Rattle.std.specs.List.{list_any}
use Rattle.std.specs.Cmp.Lexicographic.{slice_cmp}
use Rattle.std.proofs.lemmas.Bool.{le-leb, lt-leb, and_right, le-ltb, lt-ltb}
use Rattle.std.proofs.lemmas.List.Folds.{list_any-append}
use Rattle.std.proofs.lemmas.List.Elements.{filter_agree}
use Rattle.std.proofs.lemmas.Map.Text.{is_eq-slice_cmp}
use Rattle.aud_tap.specs.declared.records.StreamRec.{StreamRec}
use Rattle.aud_tap.specs.declared.records.StreamRec.TheVariants.{Ev, Other}
use Rattle.aud_node.specs.Lists.{is_empty}
use Rattle.aud_node.specs.Stream.{Text, entry, positions_after}
use Rattle.aud_node.specs.Recoverable.{is_recoverable}
use Rattle.aud_node.specs.Addressees.{is_to_all, is_to_room, is_excepting, positions_to_all}
use Rattle.aud_rooms.specs.Rooms.{is_for}
use Rattle.aud_rooms.specs.Spans.{RoomSpan, is_within, rooms_by_spans, is_due_by_spans, due_by_spans}
use Rattle.aud_rooms.specs.Private.Candidates.{is_past_upto, is_by, is_by_span, is_by_some, is_candidate, candidates}
use Rattle.aud_rooms.specs.declared.candidates.By.{By}
use Rattle.aud_rooms.specs.declared.candidates.By.TheVariants.{Named, Excepted}
use Rattle.aud_base.proofs.Truth.{and_none, or_none}
use Rattle.aud_rooms.proofs.Parts.{filter_twice}
use Rattle.aud_rooms.proofs.SpanRooms.{contains-rooms_by_spans}

-- two tests in either order
and_swap : (a b : Bool) → (a && b) ≡ (b && a)
and_swap a b = grind arith

-- the positions that are cut out of a room's are those past birth up to high that the span holds
within_both : (birth high p : ℕ) (s : RoomSpan) → is_past_upto (max birth (s.first - 1)) (min high s.last) p ≡ (is_past_upto birth high p && is_within p s)
within_both birth high p s = grind (arith, common_steps, nat_tests, lt-ltb, le-ltb, and_right, lt-leb, le-leb)

-- those that pass a test that no element passes
filter_none : {X : Type 0} (test : X → Bool) → ((x : X) → test x ≡ false) → (xs : List X) → filter test xs ≡ []
filter_none test none [] = refl
filter_none test none (x ∷ xs) = grind (arith, none x, filter_none test none xs)

module _ (stream : List StreamRec) (nsp : Text) (birth high : ℕ) where
  -- the positions for the whole namespace
  pub to_all : filter (is_past_upto birth high) (positions_to_all stream nsp) ≡ filter (λ p. is_past_upto birth high p && is_to_all (entry stream p) nsp) (positions_after 0 (length stream))
  to_all =
      filter_twice (is_past_upto birth high) (λ p. is_to_all (entry stream p) nsp) (λ p. is_past_upto birth high p && is_to_all (entry stream p) nsp) (λ p. and_swap (is_to_all (entry stream p) nsp) (is_past_upto birth high p)) (positions_after 0 (length stream))

  module _ (by : By) where
    -- no span has a position
    pub of_none : filter (is_by_some by [] stream nsp birth high) (positions_after 0 (length stream)) ≡ []
    of_none = filter_none _ (λ p. and_none (is_past_upto birth high p)) (positions_after 0 (length stream))

    -- those of one span
    pub of_one : (s : RoomSpan) → filter (is_past_upto (max birth (s.first - 1)) (min high s.last)) (filter (λ p. is_by by (entry stream p) nsp s.room) (positions_after 0 (length stream)))
        ≡ filter (is_by_some by (s ∷ []) stream nsp birth high) (positions_after 0 (length stream))
    of_one s =
        filter_twice (is_past_upto (max birth (s.first - 1)) (min high s.last)) (λ p. is_by by (entry stream p) nsp s.room) (is_by_some by (s ∷ []) stream nsp birth high)
        (λ p. grind (arith, within_both birth high p s, and_swap (is_by by (entry stream p) nsp s.room), or_none (is_by_span by stream nsp p s))) (positions_after 0 (length stream))

    -- those of some spans or of others
    pub of_both : (one other : List RoomSpan)
        → filter (λ p. is_by_some by one stream nsp birth high p || is_by_some by other stream nsp birth high p) (positions_after 0 (length stream)) ≡ filter (is_by_some by (one ++ other) stream nsp birth high) (positions_after 0 (length stream))
    of_both one other =
        filter_agree _ _ (λ p. grind (arith, list_any-append (is_by_span by stream nsp p) one other)) (positions_after 0 (length stream))

  -- those for the whole namespace or of spans
  pub to_any : (spans : List RoomSpan)
      → filter (λ p. (is_past_upto birth high p && is_to_all (entry stream p) nsp) || is_by_some Named spans stream nsp birth high p) (positions_after 0 (length stream)) ≡ candidates spans stream nsp birth high
  to_any spans = filter_agree _ _ (λ p. grind arith) (positions_after 0 (length stream))

-- ---- what is due is among them

module _ (spans : List RoomSpan) (p : ℕ) where
  -- one of two tests passes for an element where one of them does for some
  any_or : {X : Type 0} (f g : X → Bool) (xs : List X) → list_any (λ x. f x || g x) xs ≡ (list_any f xs || list_any g xs)
  any_or f g [] = refl
  any_or f g (x ∷ xs) = grind (arith, any_or f g xs)

  -- a test beside one that is the same for all
  any_and : {X : Type 0} (a : Bool) (f : X → Bool) (xs : List X) → list_any (λ x. a && f x) xs ≡ (a && list_any f xs)
  any_and a f [] = sym (and_none a)
  any_and a f (x ∷ xs) = grind (arith, any_and a f xs)

  -- tests that agree
  any_agree : {X : Type 0} (f g : X → Bool) → ((x : X) → f x ≡ g x) → (xs : List X) → list_any f xs ≡ list_any g xs
  any_agree f g same [] = refl
  any_agree f g same (x ∷ xs) = grind (arith, same x, any_agree f g same xs)

  -- a room that is held is that of a span
  held_any : (some : List RoomSpan) (rooms : List Text) → list_any (λ room. list_any (λ s. is_within p s && is_eq (slice_cmp nat_cmp room s.room)) some) rooms
      ≡ list_any (λ s. is_within p s && list_any (λ room. bytes_eq room s.room) rooms) some
  held_any [] rooms = any_and false (λ _. false) rooms
  held_any (s ∷ some) rooms =
      any_or (λ room. is_within p s && is_eq (slice_cmp nat_cmp room s.room)) (λ room. list_any (λ s. is_within p s && is_eq (slice_cmp nat_cmp room s.room)) some) rooms
      ∙ grind (arith, held_any some rooms, any_and (is_within p s) (λ room. is_eq (slice_cmp nat_cmp room s.room)) rooms, any_agree _ _ (λ room. is_eq-slice_cmp room s.room) rooms)

  -- the test of an empty list, by its length
  none_empty : (rooms : List Text) → is_empty rooms ≡ (length rooms == 0)
  none_empty [] = refl
  none_empty (room ∷ rooms) = grind arith

  -- two tests that are the same for all, beside one that isn't
  any_both : (a b : Bool) (f g : RoomSpan → Bool) (some : List RoomSpan) → list_any (λ s. f s && (a && (b && g s))) some ≡ (a && (b && list_any (λ s. f s && g s) some))
  any_both a b f g [] = grind arith
  any_both a b f g (s ∷ some) = grind (arith, any_both a b f g some)

  -- a test beside one that no element passes
  any_never : (f g : RoomSpan → Bool) → ((s : RoomSpan) → g s ≡ false) → (some : List RoomSpan) → list_any (λ s. f s && g s) some ≡ false
  any_never f g never [] = refl
  any_never f g never (s ∷ some) = grind (arith, never s, any_never f g never some)

  -- an entry is addressed to the rooms of the spans where it is for the whole namespace or for the room of a span, and
  -- excepts none of these rooms
  for_some : (o : Option StreamRec) (nsp : Text)
      → is_for o nsp (rooms_by_spans spans p)
      ≡ ((is_to_all o nsp || list_any (λ s. is_within p s && is_to_room o nsp s.room) spans) && not (list_any (λ s. is_within p s && is_excepting o s.room) spans))
  for_some None nsp = grind (arith, any_never (is_within p) (λ s. is_to_room None nsp s.room) (λ s. refl) spans)
  for_some (Some (Other off)) nsp =
      grind (arith, and_none (is_recoverable (Other off)), any_never (is_within p) (λ s. is_to_room (Some (Other off)) nsp s.room) (λ s. and_none (is_recoverable (Other off))) spans)
  for_some (Some (Ev event)) nsp =
      let named = any_agree _ _ (λ room. contains-rooms_by_spans spans p room) event.rooms ∙ held_any spans event.rooms in
      let excepted = any_agree _ _ (λ room. contains-rooms_by_spans spans p room) event.except ∙ held_any spans event.except in
      let r = is_recoverable (Ev event) in
      grind (arith, none_empty event.rooms, named, excepted, any_both r (bytes_eq event.nsp nsp) (is_within p) (λ s. list_any (λ other. bytes_eq other s.room) event.rooms) spans, any_both r true (is_within p) (λ s. list_any (λ other. bytes_eq other s.room) event.except) spans)

module _ (spans : List RoomSpan) (stream : List StreamRec) (nsp : Text) (birth high : ℕ) where
  -- what is due is among them
  due_alike : (p : ℕ) → (is_candidate spans stream nsp birth high p && not (is_by_some Excepted spans stream nsp birth high p)) ≡ is_due_by_spans spans stream nsp birth high p
  due_alike p = grind (arith, for_some spans p (entry stream p) nsp)

  -- it is they without those whose entries except the room of a span that holds them
  pub candidates_due : filter (λ p. is_candidate spans stream nsp birth high p && not (is_by_some Excepted spans stream nsp birth high p)) (positions_after 0 (length stream)) ≡ due_by_spans spans stream nsp birth high
  candidates_due = filter_agree _ _ due_alike (positions_after 0 (length stream))
