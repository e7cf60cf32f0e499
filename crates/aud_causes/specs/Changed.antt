-- A change of a room that no log has: with it what came would be what was due.
use Rattle.std.specs.Prelude.{ℕ, ◌-◌, Bool, true, false, not, ◌&&◌, ◌++◌, List, [], ◌∷◌, max, min, nat_eq, nat_le, Option, Some, None, if◌then◌else◌, nat_lt, slice_get}
use Rattle.std.specs.Cmp.Lexicographic.{pointwise}
use Rattle.std.specs.List.{filter, list_any}
use Rattle.std.specs.Str.{bytes_eq}
use Rattle.aud_node.specs.Cluster.{Cluster, node_log}
use Rattle.aud_node.specs.Stream.{Text}
use Rattle.aud_rooms.specs.Spans.{RoomSpan, due_by_spans}
use Rattle.aud_cert.specs.Certificate.{TurnSeen, turn_at}
use Rattle.aud_session_facts.specs.Opened.{opened_in}
use Rattle.aud_causes.specs.declared.changed.Stretch.{Stretch}
use Rattle.std.specs.Option.{option_and_then, option_or}
use Rattle.aud_tap.specs.declared.records.NodeRec.{NodeRec}
use Rattle.aud_tap.specs.declared.records.NodeRec.TheVariants.{Join, Leave}
use Rattle.aud_node.specs.NodeTap.{NodeTap, cursor_after}
use Rattle.aud_node.specs.NodeTaps.{node_at}
use Rattle.aud_rooms.specs.TurnPlaces.{own_between}
use Rattle.aud_rooms.specs.Turns.{Turn}

-- ---- the next change of the room that a log has

-- there is a record, and by it the session joins or leaves the room
abbrev pub is_change : Text → Text → Option NodeRec → Bool
is_change pid room (Some (Join other name)) = bytes_eq other pid && bytes_eq name room
is_change pid room (Some (Leave other name)) = bytes_eq other pid && bytes_eq name room
is_change pid room _ = false

-- where the record with this number is such a change: the last position that the session had reached by then, if that is
-- this one or past it; in the turns before it had reached that one
abbrev pub change_in : NodeTap → Text → Text → ℕ → ℕ → ℕ → Option ℕ
change_in tap pid room p high number =
    if is_change pid room (slice_get tap.recs number)
    then option_and_then (λ cursor. if nat_lt (max cursor high) p then None else Some (max cursor high)) (cursor_after tap number)
    else None

-- the same of the node at this place
abbrev pub change_past : Cluster → ℕ → Text → Text → ℕ → ℕ → ℕ → Option ℕ
change_past c node pid room p high number = option_and_then (λ (tap : NodeTap). change_in tap pid room p high number) (node_at c node)

-- that of the first of the records with these numbers that has one
abbrev pub next_change_at : Cluster → ℕ → Text → Text → ℕ → ℕ → List ℕ → Option ℕ
next_change_at c node pid room p high [] = None
next_change_at c node pid room p high (number ∷ numbers) =
    option_or (change_past c node pid room p high number) (next_change_at c node pid room p high numbers)

-- of the session's own records in the turn
abbrev pub next_change_in : Cluster → Text → Text → ℕ → ℕ → Turn → Option ℕ
next_change_in c pid room p high t = next_change_at c t.node pid room p high (own_between (node_log c t.node) pid t.from t.to)

-- of those in these turns
abbrev pub next_change_over : Cluster → Text → Text → ℕ → ℕ → List TurnSeen → Option ℕ
next_change_over c pid room p high [] = None
next_change_over c pid room p high (t ∷ later) =
    option_or (next_change_in c pid room p high (turn_at c t)) (next_change_over c pid room p (max t.high high) later)

-- the last position that the session of these turns had reached when it next changed the room, from the position on
abbrev pub next_change : Cluster → Text → List TurnSeen → Text → ℕ → Option ℕ
next_change c pid turns room p = next_change_over c pid room p 0 turns

-- ---- how far the change would reach

-- the greatest of these positions, where this is the greatest so far
abbrev pub greatest : ℕ → List ℕ → ℕ
greatest last [] = last
greatest last (p ∷ positions) = greatest (max p last) positions

-- what was reached, but not past the last position; that where nothing is given
abbrev pub up_to : ℕ → Option ℕ → ℕ
up_to last None = last
up_to last (Some reached) = min reached last

-- from the position on, up to the next change of the room that a log has, or to the end of what came
abbrev pub stretch_of : Cluster → Text → List TurnSeen → List ℕ → Text → ℕ → Stretch
stretch_of c pid turns came room p = record { first = p; last = up_to (greatest 0 came) (next_change c pid turns room p) }

abbrev pub is_within : Stretch → ℕ → Bool
is_within s p = nat_le s.first p && nat_le p s.last

-- ---- what would be due there

-- the span is of another room
abbrev pub is_of_other : Text → RoomSpan → Bool
is_of_other room span = not (bytes_eq span.room room)

-- the rooms' spans, where the session holds this room over the stretch, or doesn't
abbrev pub spans_with : List RoomSpan → Text → Bool → Stretch → List RoomSpan
spans_with spans room true s = filter (is_of_other room) spans ++ record { room = room; first = s.first; last = s.last } ∷ []
spans_with spans room false s = filter (is_of_other room) spans

-- the namespace in which the session was opened
abbrev pub namespace_in : Option (Text × Text × ℕ) → Text
namespace_in None = []
namespace_in (Some opened) = opened.1

-- ---- the change

-- where the session of these turns and spans joined the room, or left it, just before it reached the position, and no log
-- has that: from there up to the next change of the room that one has, or to the end of what came, each entry that is due
-- then came, once and in its place, and no other did
abbrev pub fits_with : Cluster → Text → List TurnSeen → List RoomSpan → List ℕ → Bool → ℕ → Text → Bool
fits_with c pid turns spans came joined p room =
    let s = stretch_of c pid turns came room p in
    let due = due_by_spans (spans_with spans room joined s) c.stream (namespace_in (opened_in turns)) (s.first - 1) s.last in
    pointwise nat_eq (filter (is_within s) came) due

-- so it is of one of these rooms
abbrev pub fits_with_any : Cluster → Text → List TurnSeen → List RoomSpan → List ℕ → Bool → ℕ → List Text → Bool
fits_with_any c pid turns spans came joined p rooms = list_any (fits_with c pid turns spans came joined p) rooms
