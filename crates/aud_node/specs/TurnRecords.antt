-- The records of one turn of a session in a node's log.
use Rattle.std.specs.Prelude.{ℕ, zero, suc, ◌+◌, Bool, false, List, [], ◌∷◌, length, drop, Option, if◌then◌else◌, nat_eq, ◌&&◌}
use Rattle.std.specs.Option.{option_map}
use Rattle.std.specs.Str.{bytes_eq}
use Rattle.aud_tap.specs.declared.records.NodeRec.{NodeRec}
use Rattle.aud_tap.specs.declared.records.NodeRec.TheVariants.{Opened, Broke, Back, Gone}
use Rattle.aud_node.specs.Lists.{first_index}
pub use Rattle.aud_tap.specs.RecordFields.{pid_of}
use Rattle.aud_node.specs.Stream.{Text}

-- the record begins turn k of the session of this pid: its `open` begins turn 0, a `back` of number k turn k. A
-- `back` of number 0 begins no turn
abbrev pub begins_turn : Text → ℕ → NodeRec → Bool
begins_turn pid zero (Opened other sid nsp) = bytes_eq other pid
begins_turn pid (suc k) (Back other number) = bytes_eq other pid && nat_eq number (suc k)
begins_turn pid k _ = false

-- the record is the session's `open` or a `back` of it, of any number
abbrev pub begins_any_turn : Text → NodeRec → Bool
begins_any_turn pid (Opened other sid nsp) = bytes_eq other pid
begins_any_turn pid (Back other number) = bytes_eq other pid
begins_any_turn pid _ = false

-- the record is a `break` of the session, of any number, or its `gone`
abbrev pub ends_any_turn : Text → NodeRec → Bool
ends_any_turn pid (Broke other number) = bytes_eq other pid
ends_any_turn pid (Gone other) = bytes_eq other pid
ends_any_turn pid _ = false

-- of the records after one that begins a turn, those of that turn: through the next `break` or `gone`, or those
-- before the next `open` or `back`, or all, whichever are fewest
abbrev pub rest_of_turn : Text → List NodeRec → List NodeRec
rest_of_turn pid [] = []
rest_of_turn pid (rec ∷ recs) =
    if begins_any_turn pid rec then [] else if ends_any_turn pid rec then rec ∷ [] else rec ∷ rest_of_turn pid recs

-- the first of the records and the rest of its turn
abbrev pub turn_in : Text → List NodeRec → List NodeRec
turn_in pid [] = []
turn_in pid (first ∷ others) = first ∷ rest_of_turn pid others

-- the records of turn k of the session, from the first record that begins it on; none where no record begins it
abbrev pub turn_records : List NodeRec → Text → ℕ → Option (List NodeRec)
turn_records log pid k = option_map (λ from. turn_in pid (drop from log)) (first_index (begins_turn pid k) log)

-- the numbers of those records, from the first one on, before the second; none where no record begins the turn
abbrev pub turn_range : List NodeRec → Text → ℕ → Option (ℕ × ℕ)
turn_range log pid k = option_map (λ from. (from, from + length (turn_in pid (drop from log)))) (first_index (begins_turn pid k) log)
