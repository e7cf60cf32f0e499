-- Sentences whose words have places for figures.
use Rattle.std.specs.Prelude.{ℕ, suc, Bool, List, [], ◌∷◌, ◌++◌, decimal, if◌then◌else◌, ◌==◌}
use Rattle.std.specs.List.{after_first, before_first, list_any}
use Rattle.aud_node.specs.Cluster.{Cluster}
use Rattle.aud_maker.specs.Made.{name_at}
use Rattle.aud_refusals.specs.Words.{refusal_text}
use Rattle.aud_causes.specs.declared.why.Figure.{Figure}
use Rattle.aud_causes.specs.declared.why.Figure.TheVariants.{Name, Number, Nth, Refused}

-- the text of a figure, where names are those of these logs' taps
abbrev pub figure_text : Cluster → Figure → List ℕ
figure_text c (Name place) = name_at c place
figure_text c (Number number) = decimal number
figure_text c (Nth number) = decimal (suc number)
figure_text c (Refused refusal) = refusal_text refusal

-- the byte is `#`
abbrev pub is_place : ℕ → Bool
is_place b = b == 35

-- the words, with the next of these texts in the place of each `#`
abbrev pub filled : List ℕ → List (List ℕ) → List ℕ
filled words [] = words
filled words (text ∷ texts) =
    if list_any is_place words then before_first is_place words ++ (text ++ filled (after_first is_place words) texts) else words
