-- The rooms of which something is kept that passes a test; a `BTreeSet` of borrowed texts, seen as a set.
use Rattle.std.proofs.Common.{◌≡◌, Bool, true, false, cond, List, [], ◌∷◌, map, filter, refl, sym, ap, ◌∙◌, arith, ℕ, Bor, is_some}
use Rattle.std.specs.List.{list_any}
use Rattle.std.specs.Ordering.{nat_cmp, is_eq, eq_by_cmp}
use Rattle.std.specs.Cmp.Lexicographic.{slice_cmp, nat_list_cmp_total, texts_ties, bytes_decides}
use Rattle.std.specs.FinSet as set
use Rattle.std.proofs.lemmas.Map.Views.{any-filter_same}
use Rattle.aud_base.proofs.Lists.{any-map}
use Rattle.aud_node.specs.Stream.{Text}
use Rattle.aud_rooms.specs.Rooms.{Rooms}
use Rattle.aud_rooms.specs.Private.RoomMap.{RoomMap, at_room, do_pass, rooms_with}
use Rattle.std.specs.Cmp.{eq_by_cmp_equiv}

-- rooms that the order of bytes takes for equal are the same
pub same_text : (a b : Text) → eq_by_cmp (slice_cmp nat_cmp) a b ≡ true → a ≡ b
same_text a b e = (bytes_decides a b).0 (texts_ties a b ∙ e)

-- a room is equal to itself in that order
pub itself : (a : Text) → eq_by_cmp (slice_cmp nat_cmp) a a ≡ true
itself a = sym (texts_ties a a) ∙ (bytes_decides a a).1 refl

-- a room is one of the map's where something is kept of it
any_key : {X : Type 0} (es : RoomMap X) (q : Text) → list_any (eq_by_cmp (slice_cmp nat_cmp) q) (map (λ e. e.0.now) es) ≡ is_some (at_room es q)
any_key [] q = refl
any_key (e ∷ es) q = grind (arith, any_key es q)

-- a room is among those with what passes the test where what is kept of it passes
pub contains-rooms_with : {X : Type 0} (test : X → Bool) (es : RoomMap X) (q : Text) → set.contains (rooms_with test es) q ≡ do_pass test (at_room es q)
unfolding rooms_with
contains-rooms_with {X} test es q =
    let passes : Text → Bool = λ room. do_pass test (at_room es room) in
    set.contains-from_list nat_list_cmp_total (filter passes (map (λ e. e.0.now) es)) q
    ∙ any-filter_same (eq_by_cmp (slice_cmp nat_cmp) q) passes (passes q) (λ room e. ap passes (sym (same_text q room e))) (map (λ e. e.0.now) es)
    ∙ grind (arith, any_key es q)

-- sets that contain the same rooms are one
pub same_rooms : (a b : Rooms) → ((q : Text) → set.contains a q ≡ set.contains b q) → a ≡ b
same_rooms a b same = set.same_set nat_list_cmp_total (set.slice_cmp-IsAntisymmetric set.nat_cmp-IsAntisymmetric) a b same

-- the set of borrowed texts
abbrev pub texts : List (Bor (List ℕ)) → Rooms
texts keys = set.from_list (map (λ k. k.now) keys)

-- the text is one of these
abbrev pub has_text : List (Bor (List ℕ)) → List ℕ → Bool
has_text keys text = list_any (λ k. is_eq (slice_cmp nat_cmp text k.now)) keys

-- the set contains the texts that are borrowed
pub contains-texts : (keys : List (Bor (List ℕ))) (text : List ℕ) → set.contains (texts keys) text ≡ has_text keys text
contains-texts keys text =
    set.contains-from_list nat_list_cmp_total (map (λ k. k.now) keys) text ∙ any-map (eq_by_cmp (slice_cmp nat_cmp) text) (λ (k : Bor (List ℕ)). k.now) keys

module _ (keys news : List (Bor (List ℕ))) (text : List ℕ) where
  -- the set of the texts with one more
  pub texts-insert : ((q : Bor (List ℕ)) → has_text news q.now ≡ cond (is_eq (slice_cmp nat_cmp text q.now)) true (has_text keys q.now)) → texts news ≡ set.insert (texts keys) text
  texts-insert updates = same_rooms _ _ (λ q.
      grind (arith, contains-texts news q, contains-texts keys q, updates (record { ref_ptr = (0, 0); now = q }), (eq_by_cmp_equiv nat_list_cmp_total).symm text q, set.contains-insert nat_list_cmp_total (texts keys) text q))

  -- the set of the texts without one
  pub texts-remove : ((q : Bor (List ℕ)) → has_text news q.now ≡ cond (is_eq (slice_cmp nat_cmp text q.now)) false (has_text keys q.now)) → texts news ≡ set.remove (texts keys) text
  texts-remove updates = same_rooms _ _ (λ q.
      grind (arith, contains-texts news q, contains-texts keys q, updates (record { ref_ptr = (0, 0); now = q }), (eq_by_cmp_equiv nat_list_cmp_total).symm text q, set.contains-remove nat_list_cmp_total (texts keys) text q))
