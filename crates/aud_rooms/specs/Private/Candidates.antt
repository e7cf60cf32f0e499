-- Which positions may be due by spans, by the rooms that their entries name, and which aren't, by those that they except.
use Rattle.std.specs.Prelude.{Option, ℕ, Bool, List, length, nat_lt, nat_le, ◌&&◌, ◌||◌}
use Rattle.std.specs.List.{filter, list_any}
use Rattle.aud_tap.specs.declared.records.StreamRec.{StreamRec}
use Rattle.aud_node.specs.Stream.{Text, entry, positions_after}
use Rattle.aud_node.specs.Addressees.{is_to_all, is_to_room, is_excepting}
use Rattle.aud_rooms.specs.Spans.{RoomSpan, is_within}
use Rattle.aud_rooms.specs.declared.candidates.By.{By}
use Rattle.aud_rooms.specs.declared.candidates.By.TheVariants.{Named, Excepted}

-- past the first position, up to the second
abbrev pub is_past_upto : ℕ → ℕ → ℕ → Bool
is_past_upto after upto p = nat_lt after p && nat_le p upto

-- there is an entry, it is recoverable, and it names the room, or excepts it
abbrev pub is_by : By → Option StreamRec → Text → Text → Bool
is_by Named o nsp room = is_to_room o nsp room
is_by Excepted o nsp room = is_excepting o room

-- the span holds the position, and the entry there names the span's room, or excepts it
abbrev pub is_by_span : By → List StreamRec → Text → ℕ → RoomSpan → Bool
is_by_span by stream nsp p s = is_within p s && is_by by (entry stream p) nsp s.room

-- past birth, up to high, and the entry there names the room of a span that holds the position, or excepts it
abbrev pub is_by_some : By → List RoomSpan → List StreamRec → Text → ℕ → ℕ → ℕ → Bool
is_by_some by spans stream nsp birth high p = is_past_upto birth high p && list_any (is_by_span by stream nsp p) spans

-- past birth, up to high, recoverable, and for the whole namespace or for the room of a span that holds the position
abbrev pub is_candidate : List RoomSpan → List StreamRec → Text → ℕ → ℕ → ℕ → Bool
is_candidate spans stream nsp birth high p =
    is_past_upto birth high p && (is_to_all (entry stream p) nsp || list_any (is_by_span Named stream nsp p) spans)

-- the positions that may be due by the spans, ascending
abbrev pub candidates : List RoomSpan → List StreamRec → Text → ℕ → ℕ → List ℕ
candidates spans stream nsp birth high = filter (is_candidate spans stream nsp birth high) (positions_after 0 (length stream))
