-- The rooms held at a position, by the spans of a made certificate.
use Rattle.std.proofs.Common.{◌≡◌, ◌<◌, ◌≤◌, ℕ, Bool, ◌&&◌, ◌||◌, List, [], ◌∷◌, map, Option, Some, None, is_some, option_map, unwrap_or, refl, sym, ap, subst, ◌∙◌, arith, nat_cmp, is_eq}
use Rattle.std.specs.List.{find, list_any}
use Rattle.std.specs.Cmp.Lexicographic.{slice_cmp, texts_ties}
use Rattle.std.specs.FinSet as set
use Rattle.aud_node.specs.Cluster.{Cluster}
use Rattle.aud_node.specs.Stream.{Text}
use Rattle.aud_rooms.specs.Rooms.{own_room}
use Rattle.aud_rooms.specs.Spans.{RoomSpan, AreSpansOfTurns, first_low, is_within, rooms_by_spans, rooms_by_turns}
use Rattle.aud_rooms.specs.Turns.{Slice, slice_of}
use Rattle.aud_rooms.specs.TurnsDue.{greatest_high}
use Rattle.aud_rooms.proofs.ByTurns.{rooms_by_spans-are, rooms_for-up_to}
use Rattle.aud_rooms.proofs.SpanRooms.{contains-rooms_by_spans}
use Rattle.aud_cert.specs.Certificate.{CertificateSeen}
use Rattle.aud_maker.specs.Made.{IsMade}
use Rattle.aud_merge.specs.ByTurns.{rooms_of_turns}
use Rattle.aud_session_facts.specs.Private.Holding.{holds_room}

-- a span of the room holds the position where that is in the order of texts
same_any : (p : ℕ) (room : Text) (spans : List RoomSpan) → list_any (holds_room p room) spans ≡ list_any (λ s. is_within p s && is_eq (slice_cmp nat_cmp room s.room)) spans
same_any p room [] = refl
same_any p room (s ∷ spans) = (λ i. (is_within p s && texts_ties room s.room i) || same_any p room spans i)

-- the room is one of those whose spans hold the position where one of its spans does
pub room_there : (spans : List RoomSpan) (p : ℕ) (room : Text) → set.contains (rooms_by_spans spans p) room ≡ list_any (holds_room p room) spans
room_there spans p room = contains-rooms_by_spans spans p room ∙ sym (same_any p room spans)

-- there is a first element that passes where any does
found_any : {X : Type 0} (test : X → Bool) (xs : List X) → is_some (find test xs) ≡ list_any test xs
found_any test [] = refl
found_any test (x ∷ xs) = grind (arith, found_any test xs)

-- there is one that was found where any does
pub found_some : {X Y : Type 0} (f : X → Y) (o : Option X) (test : Y → Bool) (ys : List Y) → option_map f o ≡ find test ys → is_some o ≡ list_any test ys
found_some f None test ys is = ap is_some is ∙ found_any test ys
found_some f (Some x) test ys is = ap is_some is ∙ found_any test ys

module _ (c : Cluster) (cert : CertificateSeen) (made : IsMade c cert.pid cert) where
  -- the records of its turns
  abbrev pub slices : List Slice
  slices = map (slice_of c) made.turns

  -- the certificate's spans are those of its turns
  pub spans_are : AreSpansOfTurns c.stream made.who slices cert.spans
  spans_are = subst (λ pid. AreSpansOfTurns c.stream (record { pid = pid; sid = made.who.sid; nsp = made.who.nsp }) slices cert.spans) (sym made.names) (made.is.spans_are made.who.nsp)

  -- past birth, up to where the turns reach, they give the rooms of the position
  pub held_there : (p : ℕ) → first_low slices < p → p ≤ greatest_high slices → rooms_of_turns c made.who made.turns p ≡ Some (rooms_by_spans cert.spans p)
  held_there p past within =
      let some : 0 < p = omega arith in
      let (rooms, is) = rooms_for-up_to c.stream made.who.pid p (own_room made.who.sid) slices some within in
      let by_spans = rooms_by_spans-are (rooms_by_turns c.stream made.who slices) (first_low slices) (greatest_high slices) cert.spans spans_are p past within in
      is ∙ ap Some (sym (by_spans ∙ ap (λ o. unwrap_or o set.empty) is))
