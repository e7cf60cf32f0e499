-- Rooms given to positions one after another, as the builder of spans is told.
use Rattle.std.specs.Prelude.{ℕ, ◌+◌, ◌-◌, suc, List, [], ◌++◌, length, replicate, slice_get, refl}
use Rattle.std.specs.Option.{unwrap_or}
use Rattle.std.specs.Coded.{Coded, code_by, coded×, coded_ℕ, coded_list}
use Rattle.std.specs.FinSet as set
use Rattle.aud_tap.specs.declared.records.NodeRec.{NodeRec}
use Rattle.aud_node.specs.Stream.{Text}
use Rattle.aud_rooms.specs.Rooms.{Rooms, own_room, rooms_after}
use Rattle.aud_rooms.specs.Spans.{RoomSpan, AreSpans}

-- the rooms of each position past low, as far as positions are covered, and the rooms held now
pub record Assigned : Type 0 where
  pub low : ℕ
  pub sets : List Rooms
  pub held : Rooms

-- nothing is covered yet, and the session holds the one room named by its sid
abbrev pub starting : Text → ℕ → Assigned
starting sid birth = record { low = birth; sets = []; held = own_room sid }

-- the last position that is covered
abbrev pub covered : Assigned → ℕ
covered a = a.low + length a.sets

-- the rooms of a position
abbrev pub assigned_rooms : Assigned → ℕ → Rooms
assigned_rooms a p = unwrap_or (slice_get a.sets (p - suc a.low)) set.empty

-- the room is held from now on
abbrev pub with_joined : Text → Assigned → Assigned
with_joined room a = record a { held = set.insert a.held room }

-- the room is held no longer
abbrev pub with_left : Text → Assigned → Assigned
with_left room a = record a { held = set.remove a.held room }

-- the record changes the rooms held now, if it is the session's
abbrev pub changed_by : Text → NodeRec → Assigned → Assigned
changed_by pid rec a = record a { held = rooms_after pid a.held rec }

-- the positions that aren't covered yet, up to this one, take the rooms held now
abbrev pub covered_upto : ℕ → Assigned → Assigned
covered_upto position a = record a { sets = a.sets ++ replicate (position - covered a) a.held }

-- the spans are those of the covered positions
abbrev pub AreSpansOf : Assigned → List RoomSpan → Type 0
AreSpansOf a spans = AreSpans (assigned_rooms a) a.low (covered a) spans

-- a set of rooms is stored as one of lists of bytes
abbrev pub rooms_code : Coded Rooms
rooms_code = set.code (coded_list coded_ℕ)

-- it is stored as the low, the sets and the rooms held now
abbrev pub assigned_code : Coded Assigned
assigned_code =
    code_by (ℕ × (List Rooms × Rooms)) (coded× coded_ℕ (coded× (coded_list rooms_code) rooms_code))
    (λ a. (a.low, (a.sets, a.held))) (λ t. record { low = t.0; sets = t.1.0; held = t.1.1 }) (λ _. refl)
