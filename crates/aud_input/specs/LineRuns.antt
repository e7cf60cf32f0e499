-- From which lines of an input the lines of a part of it come.
use Rattle.std.specs.Prelude.{◌≡◌, ℕ, zero, suc, ◌+◌, ◌-◌, ◌^◌, min, nat_lt, true, List, [], ◌∷◌, map, slice_get, sum_by, Option, Some, None, is_some, if◌then◌else◌}
use Rattle.std.specs.List.{All, flat_map}
use Rattle.std.specs.Option.{option_and_then}
use Rattle.aud_base.specs.Lists.{numbers_from}
use Rattle.aud_input.specs.declared.line_runs.LineRun.{LineRun}
use Rattle.aud_input.specs.TapLines.{TapLines, kept_line, max_numbered}

-- ---- the lines of a part

-- the lines of the input that the run has, by their numbers
abbrev pub lines_of_run : LineRun → List ℕ
lines_of_run run = numbers_from run.first run.count

-- the lines of the input that those of the part come from, one after the other
abbrev pub lines_of_runs : List LineRun → List ℕ
lines_of_runs runs = flat_map lines_of_run runs

-- how many lines the part has
abbrev pub count_of : List LineRun → ℕ
count_of runs = sum_by (λ (run : LineRun). run.count) runs

-- the greatest number of 64 bits, in place of each greater one
abbrev pub capped : ℕ → ℕ
capped n = min n (2 ^ 64 - 1)

-- ---- records named by lines of the input

-- the number, if it is one of those that are kept
abbrev pub kept_number : ℕ → Option ℕ
kept_number n = if nat_lt n (max_numbered + 1) then Some n else None

-- the line of the input that the part's line of this number comes from, where that is kept. The part's lines count
-- from 1, and come from these
abbrev pub line_in : List ℕ → ℕ → Option ℕ
line_in lines zero = None
line_in lines (suc place) = option_and_then kept_number (slice_get lines place)

-- the line before these, where there is one; else none
abbrev pub from_known : Option ℕ → List ℕ → List ℕ
from_known None numbers = []
from_known (Some line) numbers = line ∷ numbers

-- the lines of the input that these lines of the part come from, up to the first that isn't known
abbrev pub numbers_named : List ℕ → List ℕ → List ℕ
numbers_named lines [] = []
numbers_named lines (number ∷ numbers) = from_known (line_in lines number) (numbers_named lines numbers)

-- a tap's lines so
abbrev pub tap_named : List ℕ → TapLines → TapLines
tap_named lines tap = record { name = tap.name; numbers = numbers_named lines tap.numbers }

-- the lines of each tap of a part, named as those of the input
abbrev pub taps_named : List LineRun → List TapLines → List TapLines
taps_named runs taps = map (tap_named (lines_of_runs runs)) taps

-- each line of the tap comes from one of the input that is kept
abbrev pub AreKnown : List LineRun → TapLines → Type 0
AreKnown runs tap = All (λ number. is_some (line_in (lines_of_runs runs) number) ≡ true) tap.numbers

-- the line that is kept for a record, once the lines of a part are named as those of the input, is the line of the input
-- that the part's comes from; and it is kept where those of all lines of the tap are
pub record NamesLines : Type 0 where
  pub named : (runs : List LineRun) (taps : List TapLines) (tap rec line : ℕ) → kept_line (taps_named runs taps) tap rec ≡ Some line
      → option_and_then (line_in (lines_of_runs runs)) (kept_line taps tap rec) ≡ Some line
  pub known : (runs : List LineRun) (taps : List TapLines) (tap rec : ℕ) (its : TapLines) → slice_get taps tap ≡ Some its → AreKnown runs its
      → kept_line (taps_named runs taps) tap rec ≡ option_and_then (line_in (lines_of_runs runs)) (kept_line taps tap rec)
