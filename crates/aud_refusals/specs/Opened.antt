-- A line taken apart, for help on it.
use Rattle.std.specs.Prelude.{ℕ, List, Option, option_map}
use Rattle.std.specs.Result.{result_ok}
use Rattle.serde_json.specs.Data.{Data}
use Rattle.aud_json.specs.Shown.{shown}
use Rattle.aud_reader.specs.Record.{opened_line}

-- the value after a line's first blank, as it is shown to the readers of records, where the line has a tap's name and
-- JSON
abbrev pub opened : List ℕ → Option Data
opened line = option_map (λ parts. shown parts.1) (result_ok (opened_line line))
