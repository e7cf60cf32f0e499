-- A turn as an object.
use Rattle.std.specs.Prelude.{ℕ, List, [], ◌∷◌, codes, Option, Some, None}
use Rattle.serde_json.specs.Data.{Data, null, string, array, object, no_members, member}
use Rattle.aud_cert.specs.Text.{items, whole}
use Rattle.aud_explanation.specs.declared.turn.TurnShown.{TurnShown}
use Rattle.aud_explanation.specs.declared.turn.TurnBegin.{TurnBegin}
use Rattle.aud_explanation.specs.declared.turn.TurnBegin.TheVariants.{Open, Back}
use Rattle.aud_explanation.specs.declared.turn.TurnEnd.{TurnEnd}
use Rattle.aud_explanation.specs.declared.turn.TurnEnd.TheVariants.{Break, Gone, Log, Missing}
use Rattle.aud_explanation.specs.JsonValue.{number_or_null}

-- how a turn begins
abbrev pub begin_word : TurnBegin → List ℕ
begin_word Open = codes "open"
begin_word Back = codes "back"

-- how it ends
abbrev pub end_word : TurnEnd → List ℕ
end_word (Break line high) = codes "break"
end_word (Gone line high) = codes "gone"
end_word (Log line high) = codes "log"
end_word Missing = codes "missing"

-- the lines on which it begins and ends
abbrev pub lines_data : ℕ → TurnEnd → Data
lines_data begin (Break line high) = array (items whole (begin ∷ line ∷ []))
lines_data begin (Gone line high) = array (items whole (begin ∷ line ∷ []))
lines_data begin (Log line high) = array (items whole (begin ∷ line ∷ []))
lines_data begin Missing = array (items whole (begin ∷ []))

-- the node's cursor at the end, where that isn't missing
abbrev pub high_at : TurnEnd → Option ℕ
high_at (Break line high) = Some high
high_at (Gone line high) = Some high
high_at (Log line high) = Some high
high_at Missing = None

-- the first and the last position that the node took
abbrev pub took_data : Option (ℕ × ℕ) → Data
took_data (Some took) = array (items whole (took.0 ∷ took.1 ∷ []))
took_data None = null

-- `{"begin":..,"end":..,"high":..,"lines":..,"low":..,"node":..,"took":..,"turn":..}`
abbrev pub turn_data : TurnShown → Data
turn_data t =
    object (member (codes "begin") (string (begin_word t.begin))
    (member (codes "end") (string (end_word t.end))
    (member (codes "high") (number_or_null (high_at t.end))
    (member (codes "lines") (lines_data t.begin_line t.end)
    (member (codes "low") (whole t.low)
    (member (codes "node") (string t.node.now)
    (member (codes "took") (took_data t.took)
    (member (codes "turn") (whole t.turn) no_members))))))))
