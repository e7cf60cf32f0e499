-- The rows of the turns.
use Rattle.std.specs.Prelude.{ℕ, max, List, [], ◌++◌, codes, decimal, fold, length, Option, Some, None}
use Rattle.aud_explanation.specs.declared.turn.TurnShown.{TurnShown}
use Rattle.aud_explanation.specs.declared.turn.TurnBegin.{TurnBegin}
use Rattle.aud_explanation.specs.declared.turn.TurnBegin.TheVariants.{Open, Back}
use Rattle.aud_explanation.specs.declared.turn.TurnEnd.{TurnEnd}
use Rattle.aud_explanation.specs.declared.turn.TurnEnd.TheVariants.{Break, Gone, Log, Missing}
use Rattle.aud_explanation.specs.Long.{long_text}
use Rattle.aud_explanation.specs.Page.{laid_line, to_left}
use Rattle.aud_explanation.specs.Span.{span}

-- the width of the column of nodes: that of the longest name
abbrev pub node_width : List TurnShown → ℕ
node_width turns = fold (λ width turn. max width (length turn.node.now)) 1 turns

-- the record by which the turn begins
abbrev pub begin_name : TurnBegin → List ℕ
begin_name Open = codes "open"
begin_name Back = codes "back"

-- the line that it stands on, and the cursor there
abbrev pub begin_words : TurnBegin → ℕ → ℕ → List ℕ
begin_words begin at cursor = codes "  " ++ decimal at ++ codes " " ++ begin_name begin ++ codes ", cursor " ++ decimal cursor ++ codes " =="

-- what the node took in it
abbrev pub took_words : Option (ℕ × ℕ) → List ℕ
took_words (Some took) = codes " take " ++ span took.0 took.1 ++ codes " =="
took_words None = []

-- the line on which it ends, how, and the cursor there
abbrev pub ending : ℕ → List ℕ → ℕ → List ℕ
ending at how cursor = codes " " ++ decimal at ++ codes " " ++ how ++ codes ", cursor " ++ decimal cursor

-- how it ends
abbrev pub end_words : TurnEnd → List ℕ
end_words (Break at high) = ending at (codes "break") high
end_words (Gone at high) = ending at (codes "gone") high
end_words (Log at high) = ending at (codes "log ends") high
end_words Missing = codes " no break  <- missing"

-- its number, and its node
abbrev pub names_words : ℕ → TurnShown → List ℕ
names_words width t = codes "    turn " ++ decimal t.turn ++ codes "  " ++ to_left width t.node.now

-- the turn
abbrev pub turn_line : ℕ → TurnShown → List ℕ
turn_line width t = names_words width t ++ begin_words t.begin t.begin_line t.low ++ took_words t.took ++ end_words t.end

-- its row
abbrev pub turn_text : ℕ → TurnShown → List ℕ
turn_text width t = laid_line (turn_line width t)

-- a row for each turn that is shown, and a line that says how many are left out
abbrev pub turns_text : List TurnShown → List ℕ
turns_text turns = long_text (turn_text (node_width turns)) turns
