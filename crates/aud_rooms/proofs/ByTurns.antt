-- What is due by the spans of the turns.
use Rattle.std.proofs.lemmas.Grind.{common_steps}
use Rattle.std.proofs.lemmas.Bool.Decides.{nat_tests}
use Rattle.std.proofs.Common.{◌≡◌, ◌<◌, ◌≤◌, ◌-◌, ℕ, suc, Bool, true, cond, ◌&&◌, List, [], ◌∷◌, length, Some, None, refl, ap, ◌∙◌, inl, inr, nat_le, nat_lt, arith, nat_cmp, is_eq}
use Rattle.std.specs.List.{list_any}
use Rattle.std.specs.Cmp.Lexicographic.{slice_cmp}
use Rattle.std.specs.FinSet as set
use Rattle.std.proofs.lemmas.Bool.{cases_lt, cond_both, le-leb, lt-leb, leb-true, leb-false, and_from, and_right, and_parts}
use Rattle.std.proofs.lemmas.List.Elements.{filter_agree}
use Rattle.std.proofs.lemmas.List.Folds.{Any-from_list_any, list_any-from_Any}
use Rattle.aud_tap.specs.declared.records.StreamRec.{StreamRec}
use Rattle.aud_node.specs.Stream.{Text, entry, positions_after}
use Rattle.aud_rooms.specs.Rooms.{Rooms, own_room, is_for}
use Rattle.aud_rooms.specs.Turns.{Who, Slice}
use Rattle.aud_rooms.specs.TurnsDue.{rooms_at_reach, rooms_at_end, rooms_for, is_past_first, is_for_rooms, is_turn_due, turns_due, greatest_high}
use Rattle.aud_rooms.specs.Spans.{RoomSpan, IsMaximal, AreSpans, AreSpansOfTurns, first_low, rooms_by_turns, is_within, rooms_by_spans, is_due_by_spans, due_by_spans}
use Rattle.aud_rooms.proofs.Intervals.{start_of, stop_of}
use Rattle.aud_rooms.proofs.SpanRooms.{contains-rooms_by_spans}
use Rattle.aud_rooms.proofs.RoomMaps.{same_text, itself, same_rooms}

-- two tests that follow from each other say the same
same_bools : (a b : Bool) → (a ≡ true → b ≡ true) → (b ≡ true → a ≡ true) → a ≡ b
same_bools a b f g = grind arith

-- the maximal interval around a position whose rooms hold the room
pub maximal_around : (rooms_at : ℕ → Rooms) (low high p : ℕ) (room : Text) → low < p → p ≤ high → set.contains (rooms_at p) room ≡ true
    → (s : RoomSpan) × (s.room ≡ room) × IsMaximal rooms_at low high s × (s.first ≤ p) × (p ≤ s.last)
maximal_around rooms_at low high p room past within held =
    let test : ℕ → Bool = λ q. set.contains (rooms_at q) room in
    let a = start_of test low p past held in
    let b = stop_of test (high - p) p high (omega arith) held in (
      record { room = room; first = a.first; last = b.last },
      refl,
      record {
        past_low = a.past_low;
        some = (let x = a.reaches in let y = b.reaches in omega arith);
        to_high = b.to_high;
        held = λ q x y. elim (cases_lt p q) as (λ _. test q ≡ true) [ inl above ↦ b.held q (omega arith) y | inr below ↦ a.held q x below ];
        not_before = a.not_before;
        not_after = b.not_after;
      },
      a.reaches,
      b.reaches,
    )

-- the span is of the room, and holds the position
abbrev holds : ℕ → Text → RoomSpan → Bool
holds p room s = is_within p s && is_eq (slice_cmp nat_cmp room s.room)

-- between low and high the spans give the rooms
pub rooms_by_spans-are : (rooms_at : ℕ → Rooms) (low high : ℕ) (spans : List RoomSpan) → AreSpans rooms_at low high spans
    → (p : ℕ) → low < p → p ≤ high → rooms_by_spans spans p ≡ rooms_at p
rooms_by_spans-are rooms_at low high spans are p past within =
    same_rooms _ _ (λ room. contains-rooms_by_spans spans p room ∙ same_bools _ _ (there room) (back room))
  where
    there : (room : Text) → list_any (holds p room) spans ≡ true → set.contains (rooms_at p) room ≡ true
    there room e =
        let (k, s, h, is, passes) = Any-from_list_any (holds p room) spans e in
        let (at, tie) = and_parts (is_within p s) (is_eq (slice_cmp nat_cmp room s.room)) passes in
        let (from, to) = and_parts (nat_le s.first p) (nat_le p s.last) at in
        ap (set.contains (rooms_at p)) (same_text room s.room tie) ∙ (are.each s (k, h, is)).held p (leb-true s.first p from) (leb-true p s.last to)

    back : (room : Text) → set.contains (rooms_at p) room ≡ true → list_any (holds p room) spans ≡ true
    back room e =
        let (s, same, maximal, from, to) = maximal_around rooms_at low high p room past within e in
        let (k, h, is) = are.all s maximal in
        list_any-from_Any (holds p room) spans
        (k, s, h, is, and_from (is_within p s) _ (and_from (nat_le s.first p) (nat_le p s.last) (le-leb s.first p from) (le-leb p s.last to)) (ap (λ r. is_eq (slice_cmp nat_cmp room r)) same ∙ itself room))

module _ (stream : List StreamRec) (pid : Text) (p : ℕ) where
  -- a position up to the greatest high has rooms
  pub rooms_for-up_to : (held : Rooms) (slices : List Slice) → 0 < p → p ≤ greatest_high slices → (rooms : Rooms) × (rooms_for stream pid held slices p ≡ Some rooms)
  rooms_for-up_to held [] some h = absurd (omega arith)
  rooms_for-up_to held (slice ∷ later) some h =
      cond_both (nat_le p slice.high) _ _ (λ o. (rooms : Rooms) × (o ≡ Some rooms)) (λ e. (cond (nat_le p slice.low) held (rooms_at_reach stream pid p slice.low held slice.recs), refl))
      (λ e. let above : slice.high < p = leb-false p slice.high e in rooms_for-up_to (rooms_at_end pid held slice.recs) later some (omega arith))

  -- one past it has none
  pub rooms_for-past : (held : Rooms) (slices : List Slice) → greatest_high slices < p → rooms_for stream pid held slices p ≡ None
  rooms_for-past held [] h = refl
  rooms_for-past held (slice ∷ later) h = grind (arith, rooms_for-past (rooms_at_end pid held slice.recs) later, lt-leb p slice.high)

-- past the first slice's low is past where the spans begin
past_low : (slices : List Slice) (p : ℕ) → 0 < length slices → is_past_first slices p ≡ nat_lt (first_low slices) p
past_low [] p some = absurd (omega arith)
past_low (slice ∷ later) p some = refl

module _ (stream : List StreamRec) (who : Who) (slices : List Slice) (spans : List RoomSpan) (are : AreSpansOfTurns stream who slices spans) where
  -- past the greatest high
  beyond : (p : ℕ) → greatest_high slices < p → is_due_by_spans spans stream who.nsp (first_low slices) (greatest_high slices) p ≡ is_turn_due stream who slices p
  beyond p above = grind (arith, common_steps, nat_tests, and_right, lt-leb, rooms_for-past)

  -- up to it, past the first low
  between : (p : ℕ) → 0 < p → p ≤ greatest_high slices → first_low slices < p
      → (nat_le p (greatest_high slices) && is_for (entry stream p) who.nsp (rooms_by_spans spans p)) ≡ is_for_rooms (entry stream p) who.nsp (rooms_for stream who.pid (own_room who.sid) slices p)
  between p some below past = grind (arith, rooms_for-up_to stream who.pid p (own_room who.sid) slices some below, rooms_by_spans-are (rooms_by_turns stream who slices) (first_low slices) (greatest_high slices) spans are p past below, le-leb p (greatest_high slices) below)

  -- up to the greatest high
  within : (p : ℕ) → 0 < p → p ≤ greatest_high slices → 0 < length slices → is_due_by_spans spans stream who.nsp (first_low slices) (greatest_high slices) p ≡ is_turn_due stream who slices p
  within p some below any = grind (arith, between p some below, past_low slices p any, lt-leb (suc (first_low slices)) p)

  -- at each position
  due_at : (p : ℕ) → is_due_by_spans spans stream who.nsp (first_low slices) (greatest_high slices) p ≡ is_turn_due stream who slices p
  due_at p = grind (arith, beyond p, within)

-- what is due by the spans of the turns is what is due by the turns
pub due_by_spans-turns : (stream : List StreamRec) (who : Who) (slices : List Slice) (spans : List RoomSpan) → AreSpansOfTurns stream who slices spans
    → due_by_spans spans stream who.nsp (first_low slices) (greatest_high slices) ≡ turns_due stream who slices
due_by_spans-turns stream who slices spans are = filter_agree _ _ (due_at stream who slices spans are) (positions_after 0 (length stream))
