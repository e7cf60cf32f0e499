-- The text of what is shown of the logs.
use Rattle.std.specs.Prelude.{ℕ, List, [], ◌++◌, codes, decimal, flat_map, length, slice_get}
use Rattle.std.specs.Option.{option_map_or}
use Rattle.aud_tap.specs.declared.taps.Tap.{Tap}
use Rattle.aud_merge.specs.declared.step.Step.{Step}
use Rattle.aud_merge.specs.declared.answer.Order.{Order}
use Rattle.aud_merge.specs.declared.answer.Order.TheVariants.{Run, Blocked}

-- the name of the tap at this place; empty where there is none
abbrev pub name_at : List Tap → ℕ → List ℕ
name_at taps place = option_map_or (λ (tap : Tap). tap.name) (slice_get taps place) []

-- the line of a step, which begins so: its tap's name, and its record's number
abbrev pub step_line : List ℕ → List Tap → Step → List ℕ
step_line beginning taps step = beginning ++ name_at taps step.log ++ codes " " ++ decimal step.index ++ codes "\n"

-- a line for each step of a run and how many there are, or a line for each record that blocks and how many there are
abbrev pub order_text : List Tap → Order → List ℕ
order_text taps (Run steps) = flat_map (step_line [] taps) steps.items ++ codes "steps=" ++ decimal (length steps.items) ++ codes "\n"
order_text taps (Blocked fronts) = flat_map (step_line (codes "blocked ") taps) fronts.items ++ codes "blocked=" ++ decimal (length fronts.items) ++ codes "\n"
