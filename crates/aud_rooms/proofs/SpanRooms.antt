-- The rooms of the spans that hold a position.
use Rattle.std.proofs.Common.{◌≡◌, ◌&&◌, ℕ, List, [], ◌∷◌, map, filter, refl, ◌∙◌, arith}
use Rattle.std.specs.List.{list_any}
use Rattle.std.specs.Ordering.{nat_cmp, is_eq, eq_by_cmp}
use Rattle.std.specs.Cmp.Lexicographic.{slice_cmp, nat_list_cmp_total}
use Rattle.std.specs.FinSet as set
use Rattle.aud_node.specs.Stream.{Text}
use Rattle.aud_rooms.specs.Spans.{RoomSpan, is_within, rooms_by_spans}

-- a room is one of those whose spans hold the position where such a span of it is there
any_within : (room : Text) (p : ℕ) (spans : List RoomSpan) → list_any (eq_by_cmp (slice_cmp nat_cmp) room) (map (λ (s : RoomSpan). s.room) (filter (is_within p) spans))
    ≡ list_any (λ s. is_within p s && is_eq (slice_cmp nat_cmp room s.room)) spans
any_within room p [] = refl
any_within room p (s ∷ spans) = grind (arith, any_within room p spans)

-- the rooms by the spans contain a room where a span of it holds the position
pub contains-rooms_by_spans : (spans : List RoomSpan) (p : ℕ) (room : Text) → set.contains (rooms_by_spans spans p) room ≡ list_any (λ s. is_within p s && is_eq (slice_cmp nat_cmp room s.room)) spans
contains-rooms_by_spans spans p room =
    set.contains-from_list nat_list_cmp_total (map (λ (s : RoomSpan). s.room) (filter (is_within p) spans)) room ∙ any_within room p spans
