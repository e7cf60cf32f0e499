-- Two lists in order that contain the same spans are one.
use Rattle.std.proofs.Common.{◌≡◌, ℕ, List, [], ◌∷◌, refl, arith, Contains, nat_cmp, Less}
use Rattle.std.specs.Cmp.Lexicographic.{slice_cmp, nat_list_cmp_total}
use Rattle.aud_rooms.specs.Rooms.{Rooms}
use Rattle.aud_node.specs.Stream.{Text}
use Rattle.aud_rooms.specs.Spans.{RoomSpan, ComesBefore, ComesBeforeAll, AreInOrder, AreSpans}
use Rattle.aud_rooms.proofs.Members.{contains-none, contains-parts, contains-first, contains-later}

-- of two rooms only one comes before the other, and none before itself
not_both : (a b : Text) → slice_cmp nat_cmp a b ≡ Less → slice_cmp nat_cmp b a ≡ Less → ⊥
not_both a b x y = grind (arith, nat_list_cmp_total.antisymm a b)

-- of two spans only one comes before the other
one_way : (a b : RoomSpan) → ComesBefore a b → ComesBefore b a → ⊥
one_way a b x y = grind (arith, not_both a.room b.room, not_both a.room a.room)

-- a span that comes before all others comes before each of them
before_each : (a : RoomSpan) (spans : List RoomSpan) (s : RoomSpan) → ComesBeforeAll a spans → Contains spans s → ComesBefore a s
before_each a [] s all among = absurd (contains-none s among)
before_each a (b ∷ spans) s (first, later) among = grind (arith, before_each a spans s later, contains-parts b spans s among)

module _ (x : RoomSpan) (xs : List RoomSpan) (y : RoomSpan) (ys : List RoomSpan) (a : AreInOrder (x ∷ xs)) (b : AreInOrder (y ∷ ys))
    (there : (s : RoomSpan) → Contains (x ∷ xs) s → Contains (y ∷ ys) s) (back : (s : RoomSpan) → Contains (y ∷ ys) s → Contains (x ∷ xs) s) where
  -- the first spans are the same
  same_first : x ≡ y
  same_first = grind (arith, contains-parts y ys x (there x (contains-first x xs)), contains-first x xs, contains-parts x xs y (back y (contains-first y ys)), contains-first y ys, one_way x y, before_each x xs y a.0, before_each y ys x b.0)

  -- the other spans of the one are in the other
  rest_there : (s : RoomSpan) → Contains xs s → Contains ys s
  rest_there s among = grind (arith, contains-parts y ys s (there s (contains-later x xs s among)), contains-later x xs s among, before_each x xs s a.0 among, same_first, one_way x x)

  -- and the other way round
  rest_back : (s : RoomSpan) → Contains ys s → Contains xs s
  rest_back s among = grind (arith, contains-parts x xs s (back s (contains-later y ys s among)), contains-later y ys s among, before_each y ys s b.0 among, same_first, one_way y y)

-- two lists of spans in order that contain the same spans are one
pub same_list : (xs ys : List RoomSpan) → AreInOrder xs → AreInOrder ys → ((s : RoomSpan) → Contains xs s → Contains ys s) → ((s : RoomSpan) → Contains ys s → Contains xs s) → xs ≡ ys
same_list [] [] a b there back = refl
same_list [] (y ∷ ys) a b there back = absurd (contains-none y (back y (contains-first y ys)))
same_list (x ∷ xs) [] a b there back = absurd (contains-none x (there x (contains-first x xs)))
same_list (x ∷ xs) (y ∷ ys) a b there back = grind (arith, same_list xs ys a.1 b.1 (rest_there x xs y ys a b there back) (rest_back x xs y ys a b there back), same_first x xs y ys a b there back, rest_there x xs y ys a b there back, rest_back x xs y ys a b there back)

-- the spans of rooms are settled: there is one list of them
pub unique : (rooms_at : ℕ → Rooms) (low high : ℕ) (one other : List RoomSpan) → AreSpans rooms_at low high one → AreSpans rooms_at low high other → one ≡ other
unique rooms_at low high one other a b =
    same_list one other a.in_order b.in_order (λ s among. b.all s (a.each s among)) (λ s among. a.all s (b.each s among))
