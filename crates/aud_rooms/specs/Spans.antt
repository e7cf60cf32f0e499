-- Spans: between which positions a room is held.
use Rattle.std.specs.Prelude.{◌≡◌, ◌<◌, ◌≤◌, ℕ, suc, Bool, true, false, List, [], ◌∷◌, map, length, nat_lt, nat_le, ◌&&◌, ◌⊎◌}
use Rattle.std.specs.List.{filter, Contains}
use Rattle.std.specs.Ordering.{nat_cmp}
use Rattle.std.specs.declared.cmp.Ordering.TheVariants.{Less}
use Rattle.std.specs.Cmp.Lexicographic.{slice_cmp}
use Rattle.std.specs.Option.{unwrap_or}
use Rattle.std.specs.FinSet as set
use Rattle.aud_tap.specs.declared.records.StreamRec.{StreamRec}
use Rattle.aud_node.specs.Stream.{Text, entry, positions_after}
use Rattle.aud_rooms.specs.Rooms.{Rooms, own_room, is_for}
use Rattle.aud_rooms.specs.Turns.{Who, Slice}
use Rattle.aud_rooms.specs.TurnsDue.{rooms_for, greatest_high}

-- a room, and the first and the last of the positions at which it is held
pub record RoomSpan : Type 0 where
  pub room : Text
  pub first : ℕ
  pub last : ℕ

-- a maximal interval of those positions past low up to high that pass the test
pub record IsMaximalInterval (test : ℕ → Bool) (low high first last : ℕ) : Type 0 where
  pub past_low : low < first
  pub some : first ≤ last
  pub to_high : last ≤ high
  pub held : (p : ℕ) → first ≤ p → p ≤ last → test p ≡ true
  pub not_before : (p : ℕ) → low < p → suc p ≡ first → test p ≡ false
  pub not_after : (p : ℕ) → p ≤ high → p ≡ suc last → test p ≡ false

-- the span is a maximal interval of the positions whose rooms hold its room
abbrev pub IsMaximal : (ℕ → Rooms) → ℕ → ℕ → RoomSpan → Type 0
IsMaximal rooms_at low high s = IsMaximalInterval (λ p. set.contains (rooms_at p) s.room) low high s.first s.last

-- by the bytes of the room, then by the first position
abbrev pub ComesBefore : RoomSpan → RoomSpan → Type 0
ComesBefore a b = (slice_cmp nat_cmp a.room b.room ≡ Less) ⊎ ((a.room ≡ b.room) × (a.first < b.first))

-- the span comes before each of these
abbrev pub ComesBeforeAll : RoomSpan → List RoomSpan → Type 0
ComesBeforeAll a [] = Unit {0}
ComesBeforeAll a (b ∷ spans) = ComesBefore a b × ComesBeforeAll a spans

-- each span comes before all later ones
abbrev pub AreInOrder : List RoomSpan → Type 0
AreInOrder [] = Unit {0}
AreInOrder (a ∷ spans) = ComesBeforeAll a spans × AreInOrder spans

-- the spans are all the maximal intervals of all rooms, in order, where the positions past low up to high have these
-- rooms
pub record AreSpans (rooms_at : ℕ → Rooms) (low high : ℕ) (spans : List RoomSpan) : Type 0 where
  pub each : (s : RoomSpan) → Contains spans s → IsMaximal rooms_at low high s
  pub all : (s : RoomSpan) → IsMaximal rooms_at low high s → Contains spans s
  pub in_order : AreInOrder spans

-- the position that the first slice starts from
abbrev pub first_low : List Slice → ℕ
first_low [] = 0
first_low (slice ∷ later) = slice.low

-- the rooms at a position, by the slices of the session's turns; none past the greatest high
abbrev pub rooms_by_turns : List StreamRec → Who → List Slice → ℕ → Rooms
rooms_by_turns stream who slices p = unwrap_or (rooms_for stream who.pid (own_room who.sid) slices p) set.empty

-- the spans are those of the turns: past the first low, up to the greatest high
abbrev pub AreSpansOfTurns : List StreamRec → Who → List Slice → List RoomSpan → Type 0
AreSpansOfTurns stream who slices spans = AreSpans (rooms_by_turns stream who slices) (first_low slices) (greatest_high slices) spans

-- the position is one of the span's
abbrev pub is_within : ℕ → RoomSpan → Bool
is_within p s = nat_le s.first p && nat_le p s.last

-- the rooms whose spans hold the position
abbrev pub rooms_by_spans : List RoomSpan → ℕ → Rooms
rooms_by_spans spans p = set.from_list (map (λ (s : RoomSpan). s.room) (filter (is_within p) spans))

-- past birth, up to high, recoverable, and addressed to the namespace and the rooms whose spans hold the position
abbrev pub is_due_by_spans : List RoomSpan → List StreamRec → Text → ℕ → ℕ → ℕ → Bool
is_due_by_spans spans stream nsp birth high p =
    nat_lt birth p && (nat_le p high && is_for (entry stream p) nsp (rooms_by_spans spans p))

-- what is due by the spans, ascending
abbrev pub due_by_spans : List RoomSpan → List StreamRec → Text → ℕ → ℕ → List ℕ
due_by_spans spans stream nsp birth high = filter (is_due_by_spans spans stream nsp birth high) (positions_after 0 (length stream))
